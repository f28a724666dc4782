use Rattle.sr_labels.proofs.IndexLists.{AreListedBelow}
use Rattle.sr_labels.proofs.indices.announced.Given as goal

abbrev pub invariant-loop-node : goal.invariant-loop-node
invariant-loop-node l = AreListedBelow l.nodes l.list.items l.node
