use Rattle.sr_coverage.proofs.AddUpLemmas.{groups-add-up}
use Rattle.sr_coverage.proofs.laws.groups_add_up.Goals as goal

pub returns : goal.returns
returns c = groups-add-up
