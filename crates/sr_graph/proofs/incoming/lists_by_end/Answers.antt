use Rattle.std.proofs.Common.{◌≡◌, arith, refl, length}
use Rattle.sr_graph.proofs.IncomingLemmas.{listed-none, listed-more}
use Rattle.sr_graph.proofs.incoming.lists_by_end.Goals as goal

pub loop-link-init : goal.loop-link-init
loop-link-init c = rw c.in_ok-lists.ensures (listed-none c.args.edges.now c.args.nodes)

pub loop-link-preserved : goal.loop-link-preserved
loop-link-preserved c =
    listed-more c.args.edges.now c.args.nodes _ (record { 0 = c.loop-link.link }) c.loop-link.lists.items c.index_mut-list.result.now c.push.new.self c.loop-link.invariant refl (c.requires.ends c.loop-link.link c.loop-link-test.true) c.index_mut-list.ensures.value c.in_ok-push.ensures.ok

pub returns : goal.returns
returns c =
    let done : c.loop-link.link ≡ length c.args.edges.now = omega arith in
    rw (← done) c.loop-link.invariant
