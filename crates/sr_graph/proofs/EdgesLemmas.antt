-- The edges of a graph, read by number.
use Rattle.std.proofs.Common.{◌≡◌, ℕ, ◌<◌, map, get_or}
use Rattle.std.proofs.lemmas.List.{get_or-map}
use Rattle.sr_model.specs.Graph.{Graph, link_at, link_count, no_link}
use Rattle.sr_graph.specs.declared.edges.Edge.{Edge}
use Rattle.sr_graph.specs.Edges.{edge_of}

-- the edge at place l is that of link l
pub edge-at : (g : Graph) (l : ℕ) (d : Edge) → l < link_count g → get_or (map edge_of g.links) l d ≡ edge_of (link_at g l)
edge-at g l d within = get_or-map edge_of g.links l no_link d within
