use Rattle.sr_fib.proofs.SidLemmas.{lists-more}
use Rattle.sr_fib.proofs.sids.Sids.build.Goals as goal

pub loop-node-preserved : goal.loop-node-preserved
loop-node-preserved c = rw c.in_ok-push.ensures.items (lists-more c.args.net.now c.loop-node.links.items c.loop-node.node c.in_ok-list.list.items c.in_ok-list.ensures.links c.loop-node.invariant)
