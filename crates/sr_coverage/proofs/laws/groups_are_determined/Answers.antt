use Rattle.sr_coverage.proofs.DeterminedLemmas.{groups-one, stack-counts-one}
use Rattle.sr_coverage.proofs.laws.groups_are_determined.Goals as goal

pub returns : goal.returns
returns c = record { groups = groups-one; stacks = stack-counts-one }
