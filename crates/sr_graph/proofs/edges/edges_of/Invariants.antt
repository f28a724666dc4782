use Rattle.std.proofs.Common.{◌≡◌, map, take}
use Rattle.sr_graph.specs.Edges.{edge_of}
use Rattle.sr_graph.proofs.edges.edges_of.Given as goal

abbrev pub invariant-loop-link : goal.invariant-loop-link
invariant-loop-link l = l.edges.items ≡ map edge_of (take l.link-index l.links)
