use Rattle.sr_diff.proofs.DeterminedLemmas.{diffs-one}
use Rattle.sr_diff.proofs.laws.diffs_are_determined.Goals as goal

pub returns : goal.returns
returns c = diffs-one
