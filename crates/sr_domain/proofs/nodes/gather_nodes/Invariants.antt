use Rattle.std.proofs.Common.{◌≡◌, ◌++◌}
use Rattle.std.specs.List.{filter_map}
use Rattle.sr_domain.specs.Nodes.{node_by, nodes_of}
use Rattle.sr_domain.proofs.nodes.gather_nodes.Given as goal

abbrev pub invariant-loop-id : goal.invariant-loop-id
invariant-loop-id l = l.out.items ++ filter_map node_by l.id-iterator ≡ nodes_of l.facts
