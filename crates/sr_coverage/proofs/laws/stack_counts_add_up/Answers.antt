use Rattle.sr_coverage.proofs.AddUpLemmas.{stack-counts-add-up}
use Rattle.sr_coverage.proofs.laws.stack_counts_add_up.Goals as goal

pub returns : goal.returns
returns c = stack-counts-add-up
