use Rattle.std.proofs.Common.{◌≡◌, ◌↔◌, ℕ, IsTrue, true, arith, subst}
use Rattle.sr_lanes.specs.Bits.{is_in}
use Rattle.sr_graph.specs.Ranges.{HoldsLinks}
use Rattle.sr_model.specs.Graph.{tail}
use Rattle.sr_post.specs.Kept.{LeadsTo}
use Rattle.sr_post.proofs.KeptHopLemmas.{hops-next, over-end, over-none, both-over}
use Rattle.sr_post.proofs.kept.keep_by_links.Goals as goal

pub loop-link-preserved : goal.loop-link-preserved
loop-link-preserved c =
    let g = c.args.spaces.now.graph in
    let x = c.args.spaces.now.failed in
    let s = c.args.source.0 in
    let l = c.loop-link.link in
    let links : HoldsLinks g s c.links_from-first.result.first c.links_from-first.result.end = rw c.graph.ensures at c.links_from-first.ensures.links in
    let begins : tail g l ≡ s = links.from l c.loop-link.invariant.first c.loop-link-test.true in
    let led : (v : ℕ) → IsTrue (is_in c.led_by-led.result v) ↔ ((is_in c.loop-link.hops.left v ≡ true) × LeadsTo g x s v l) =
    subst (λ u. (v : ℕ) → IsTrue (is_in c.led_by-led.result v) ↔ ((is_in c.loop-link.hops.left v ≡ true) × LeadsTo g x u v l)) begins c.led_by-led.ensures in
    record {
      hops = hops-next g x s (record { 0 = l }) c.args.endangered c.led_by-led.result c.loop-link.hops c.keep.new.self c.loop-link.invariant.hops led c.in_ok-keep.ensures;
      first = omega (arith, c.loop-link.invariant.first);
    }

pub returns-then-is_empty : goal.returns-then-is_empty
returns-then-is_empty c =
    both-over c.args.spaces.now.graph c.args.spaces.now.failed c.args.source.0 c.loop-link.link c.args.endangered c.loop-link.hops c.loop-link.invariant.hops
    (over-none c.args.spaces.now.graph c.args.spaces.now.failed c.args.source.0 c.loop-link.link c.loop-link.hops.left (c.is_empty.ensures.0 c.if-is_empty.true)) c.requires.endangered

pub returns : goal.returns
returns c =
    let g = c.args.spaces.now.graph in
    let s = c.args.source.0 in
    let links : HoldsLinks g s c.links_from-first.result.first c.links_from-first.result.end = rw c.graph.ensures at c.links_from-first.ensures.links in
    both-over g c.args.spaces.now.failed s c.loop-link.link c.args.endangered c.loop-link.hops c.loop-link.invariant.hops
    (over-end g c.args.spaces.now.failed s c.links_from-first.result.first c.links_from-first.result.end c.loop-link.link c.loop-link.hops.left links c.loop-link-test.false) c.requires.endangered
