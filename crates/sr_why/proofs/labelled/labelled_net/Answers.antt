use Rattle.sr_why.proofs.AcceptedLemmas.{whole-accepted}
use Rattle.sr_why.proofs.labelled.labelled_net.Goals as goal

pub new-requires : goal.new-requires
new-requires c =
    let g = c.graph-graph.result.now in
    let nodes = rw c.node_count.ensures.count at c.in_ok-nodes.ensures in
    let adj = rw (c.node_count-2.ensures.count, c.link_count.ensures.count) at c.in_ok-adj.ensures in
    rw (c.in_ok-copy.ensures, c.depth.ensures.value)
    (whole-accepted g c.node_count.ensures.graph c.in_ok-nodes.nodes.items nodes c.in_ok-adj.adj.items adj c.node_count.ensures.named c.node_count.ensures.grouped c.in_ok-keys.keys.items c.in_ok-keys.ensures c.args.net.now.depth c.depth.ensures.accepted.depth)
