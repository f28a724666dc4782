use Rattle.sr_labels.specs.Rules.{AreOfNodes}
use Rattle.sr_graph_checks.proofs.tests.labels.adj_of.Given as goal

abbrev pub invariant-loop-node : goal.invariant-loop-node
invariant-loop-node l = AreOfNodes l.nodes l.list.items
