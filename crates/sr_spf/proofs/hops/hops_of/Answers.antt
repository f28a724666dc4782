use Rattle.std.proofs.Common.{◌≡◌, length, arith}
use Rattle.sr_model.specs.Graph.{node_count}
use Rattle.sr_spf.proofs.HopsLemmas.{table-none, table-more, table-whole}
use Rattle.sr_spf.proofs.hops.hops_of.Goals as goal

pub loop-to-init : goal.loop-to-init
loop-to-init c = rw (c.in_ok-push.ensures.items, c.in_ok-starts.ensures.items, c.new-links.ensures.items) (table-none _ _)

pub loop-to-preserved : goal.loop-to-preserved
loop-to-preserved c =
    let long : c.len.result ≡ length c.push_hops.new.links.items = omega (arith, c.len.ensures, c.push_hops.new.links.ok.0) in
    rw (c.in_ok-push-2.ensures.items, long) (table-more _ _ _ _ _ _ c.loop-to.invariant c.in_ok-push_hops.ensures.hops (omega (arith, c.in_ok-push_hops.ensures.few, c.node_count-count.ensures.graph.few_links)))

pub returns : goal.returns
returns c =
    let whole : c.loop-to.to ≡ node_count c.args.graph.now = omega (arith, c.loop-to-test.false, c.loop-to.auto.to-end, c.node_count-count.ensures.count) in
    rw c.new.ensures (table-whole _ _ _ _ (rw whole at c.loop-to.invariant))
