use Rattle.sr_rules.proofs.BrokenLemmas.{first-refused, nothing-told}
use Rattle.sr_rules.proofs.laws.the_first_is_refused.Goals as goal

pub returns : goal.returns
returns c = record { first = first-refused; nothing = nothing-told }
