-- What searches read of a link.
use Rattle.sr_model.specs.declared.link.Link.{Link}
use Rattle.sr_graph.specs.declared.edges.Edge.{Edge}

-- the nodes at the link's ends, and its metric
abbrev pub edge_of : Link → Edge
edge_of link = record { from = link.from; to = link.to; metric = link.metric }
