use Rattle.std.proofs.Common.{map, take}
use Rattle.sr_domain.specs.Nodes.{labels_of}
use Rattle.sr_rules.specs.Indices.{HaveSameIndices}
use Rattle.sr_rules.proofs.indices.all_indices.Given as goal

abbrev pub invariant-loop-node : goal.invariant-loop-node
invariant-loop-node l = HaveSameIndices l.out.items (map (labels_of l.facts) (take l.node-index l.nodes))
