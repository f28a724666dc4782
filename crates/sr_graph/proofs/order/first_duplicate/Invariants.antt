use Rattle.sr_graph.proofs.LinksLemmas.{AscendBelow}
use Rattle.sr_graph.proofs.order.first_duplicate.Given as goal

abbrev pub invariant-loop-i : goal.invariant-loop-i
invariant-loop-i l = AscendBelow l.links l.i
