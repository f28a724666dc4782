use Rattle.std.proofs.Common.{◌≡◌, length, get_or, arith, subst}
use Rattle.std.specs.BinaryHeap.{heap_items}
use Rattle.std.proofs.lemmas.List.{get_or_default}
use Rattle.sr_model.specs.declared.link.NodeNo.{NodeNo}
use Rattle.sr_spf.specs.Begun.{IsEntered}
use Rattle.sr_spf.proofs.BegunLemmas.{entered-start, entered-stays, entered-push, queued-entered}
use Rattle.sr_spf.proofs.begun.enter.Goals as goal
use Rattle.sr_spf.proofs.begun.enter.Goals.{then-cell-cells+in_ok-push, else-cell-cells}

pub loop-node-init : goal.loop-node-init
loop-node-init c = entered-start _ _ _ _ _ _ c.requires.begun c.requires.empty

pub loop-node-preserved : goal.loop-node-preserved
loop-node-preserved c =
    let node : NodeNo = get_or c.args.lost.now c.loop-node.node-index (record { 0 = 0 }) in
    let place : get_or c.args.lost.now c.loop-node.node-index node ≡ node = get_or_default c.args.lost.now c.loop-node.node-index node (record { 0 = 0 }) c.loop-node-test.true in
    elim c.if-cell-cells.branch [
      | then-cell-cells+in_ok-push w ↦ rw (w.cells-is, w.queue-is) (entered-push _ _ _ _ _ _ _ _ _ _ c.loop-node.invariant c.loop-node-test.true place (c.requires.begun.nodes c.loop-node.node-index (record { 0 = 0 }) c.loop-node-test.true) c.least_way-cell.ensures w.if-cell-cells.true (rw w.entry.ensures at w.in_ok-push.ensures.permutation))
      | else-cell-cells w ↦ rw (w.cells-is, w.queue-is) (entered-stays _ _ _ _ _ _ _ _ _ c.loop-node.invariant c.loop-node-test.true place c.least_way-cell.ensures w.if-cell-cells.false)
    ]

pub returns : goal.returns
returns c =
    let end : c.loop-node.node-index ≡ length c.args.lost.now = omega (arith, c.loop-node.auto.node-index-end, c.loop-node-test.false) in
    record { queued = queued-entered _ _ _ _ _ _ (subst (λ k. IsEntered (record { graph = c.args.graph.now; without = c.args.without.now; source = c.args.source.0 }) c.loop-node.cells (heap_items c.loop-node.queue) c.args.lost.now k) end c.loop-node.invariant) }
