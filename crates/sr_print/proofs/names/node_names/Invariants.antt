-- the names of the nodes so far
use Rattle.sr_print.specs.Names.{AreTexts, node_text}
use Rattle.sr_print.proofs.names.node_names.Given as goal

abbrev pub invariant-loop-node : goal.invariant-loop-node
invariant-loop-node l = AreTexts (node_text l.net) l.node l.names.items
