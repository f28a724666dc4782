use Rattle.std.proofs.Common.{ap, arith}
use Rattle.sr_loads.proofs.QueueLemmas.{forks}
use Rattle.sr_loads.proofs.forwarders.tallies_of.Goals as goal

pub another-requires-clause-rule : goal.another-requires-clause-rule
another-requires-clause-rule c = let p = ap (λ v. v.parts) c.loop.invariant.hand in forks _ _ (omega (arith, c.requires.forwarders))
