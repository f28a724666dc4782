use Rattle.std.proofs.Common.{arith, sym, ◌∙◌}
use Rattle.sr_labels.proofs.IndexLists.{below-none, below-skip, below-push, below-end}
use Rattle.sr_labels.proofs.indices.announced.Goals as goal
use Rattle.sr_labels.proofs.indices.announced.Goals.{in-None, in-Some+in_ok-push-in-Some}

pub loop-node-init : goal.loop-node-init
loop-node-init c = rw c.new-list.ensures.items (below-none c.args.nodes.now)

pub loop-node-preserved : goal.loop-node-preserved
loop-node-preserved c = elim c.match-index_at.branch [
  | in-None w ↦ rw w.list-is (below-skip c.args.nodes.now c.loop-node.list.items c.loop-node.node (sym c.index_at.ensures ∙ w.in-None.is) c.loop-node.invariant)
  | in-Some+in_ok-push-in-Some w ↦
      rw (w.list-is, w.in_ok-push-in-Some.ensures.items)
      (below-push c.args.nodes.now c.loop-node.list.items c.loop-node.node w.in-Some.index (omega arith) (sym c.index_at.ensures ∙ w.in-Some.is) c.loop-node.invariant)
]

pub returns : goal.returns
returns c = below-end c.args.nodes.now c.loop-node.list.items c.loop-node.node (omega arith) c.loop-node.invariant
