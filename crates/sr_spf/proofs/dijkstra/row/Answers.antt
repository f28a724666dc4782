use Rattle.std.proofs.Common.{rules, ◌≡◌, replicate, set, ap, ◌∙◌}
use Rattle.sr_model.specs.declared.link.TheConstants.{FAR}
use Rattle.sr_model.specs.Graph.{node_count}
use Rattle.sr_spf.proofs.QueueLemmas.{IsTentative-start, queued-start}
use Rattle.sr_spf.proofs.dijkstra.row.Goals as goal

pub settle-requires : goal.settle-requires
settle-requires g c =
    let is : c.deref_mut.result.now ≡ set (replicate (node_count c.args.graph.now) FAR) c.args.source.0 0 =
    (let long : c.in_ok-cells.cells.items ≡ replicate c.node_count-count.result FAR = search rules in
    c.deref_mut.ensures.value ∙ ap (λ k. set k c.args.source.0 0) (long ∙ ap (λ k. replicate k FAR) c.node_count-count.ensures.count)) in
    let start = IsTentative-start c.args.graph.now c.args.without.now c.args.source.0 c.deref_mut.result.now c.node_count-count.ensures.graph c.requires.source is in
    record { queued = queued-start _ _ _ _ _ start.0 start.1 (rw (c.in_ok-queue.ensures.items, c.entry.ensures) at c.in_ok-push.ensures.permutation) }
