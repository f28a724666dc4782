use Rattle.sr_laws.proofs.Stacks.{stack-one}
use Rattle.sr_laws.proofs.StacksThere.{stack-there}
use Rattle.sr_laws.proofs.stacks_are_unique.Goals as goal

pub returns : goal.returns
returns c = record { unique = λ n d a one two p q. stack-one n d a.first a.segments one two p q; there = stack-there }
