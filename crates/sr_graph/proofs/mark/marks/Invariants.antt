use Rattle.sr_graph.proofs.MarkLemmas.{AreMarksBelow}
use Rattle.sr_graph.proofs.mark.marks.Given as goal

abbrev pub invariant-loop-node : goal.invariant-loop-node
invariant-loop-node l = AreMarksBelow l.systems l.overloaded l.tests.items l.node
