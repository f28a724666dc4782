use Rattle.sr_diff.proofs.AddUpLemmas.{diffs-add-up}
use Rattle.sr_diff.proofs.laws.diffs_add_up.Goals as goal

pub returns : goal.returns
returns c = diffs-add-up
