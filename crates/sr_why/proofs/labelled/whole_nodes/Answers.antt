use Rattle.sr_why.proofs.PushLemmas.{whole_nodes-more}
use Rattle.sr_why.proofs.labelled.whole_nodes.Goals as goal

pub loop-node-preserved : goal.loop-node-preserved
loop-node-preserved c =
    let own = rw c.in_ok-srgb.ensures at c.new.ensures in
    whole_nodes-more c.args.count c.loop-node.node c.loop-node.nodes.items c.new.result c.push.new.self.items c.loop-node.invariant own c.in_ok-push.ensures.items
