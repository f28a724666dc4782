use Rattle.sr_why.specs.Whole.{AreWholeNodes}
use Rattle.sr_why.proofs.labelled.whole_nodes.Given as goal

abbrev pub invariant-loop-node : goal.invariant-loop-node
invariant-loop-node l = AreWholeNodes l.count l.node l.nodes.items
