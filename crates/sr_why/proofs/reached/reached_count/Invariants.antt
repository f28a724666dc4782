use Rattle.sr_why.proofs.ReachedLemmas.{IsCountBelow}
use Rattle.sr_why.proofs.reached.reached_count.Given as goal

abbrev pub invariant-loop-node : goal.invariant-loop-node
invariant-loop-node l = IsCountBelow l.cells l.source.0 l.node l.count
