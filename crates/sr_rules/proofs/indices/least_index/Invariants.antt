use Rattle.std.proofs.Common.{map}
use Rattle.sr_domain.specs.Nodes.{labels_of}
use Rattle.sr_rules.specs.Indices.{IsLeastFrom}
use Rattle.sr_rules.proofs.indices.least_index.Given as goal

abbrev pub invariant-loop-node : goal.invariant-loop-node
invariant-loop-node l = IsLeastFrom (map (labels_of l.facts) l.nodes) l.least l.node-index l.found
