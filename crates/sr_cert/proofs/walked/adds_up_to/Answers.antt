use Rattle.std.proofs.Common.{◌≡◌, ◌+◌, refl, arith}
use Rattle.sr_model.specs.Graph.{IsLink, link_at}
use Rattle.sr_repair.specs.Stack.{segment_at}
use Rattle.sr_cert.specs.Walked.{rows_of}
use Rattle.sr_cert.proofs.ToldLemmas.{refused, both-ways, turned, told-equal}
use Rattle.sr_cert.proofs.WalkedLemmas.{asked-begin, goes-on-drop, stands-next, stands-end, exact-at, exact-end, stays-at, stays-end}
use Rattle.sr_cert.proofs.SumLemmas.{adds-at, adds-end}
use Rattle.sr_cert.proofs.walked.adds_up_to.Goals as goal

pub loop-segment-init : goal.loop-segment-init
loop-segment-init c =
    let count = asked-begin c.args.net.now c.args.certificate.now c.requires.ways.1.rows in
    let link : IsLink c.args.net.now.graph (link_at c.args.net.now.graph c.args.certificate.now.first.0) = (rw c.graph.ensures.value at c.edge-first.ensures.graph).each c.args.certificate.now.first.0 c.requires.within.first in
    record {
      at = rw (c.edge-first.ensures.to, c.graph.ensures.value) link.1;
      stands = count;
      exact = rw (c.edge-first.ensures.to, c.graph.ensures.value) ((goes-on-drop c.args.net.now c.args.certificate.now c.args.certificate.now.rows (omega (arith, count))).1 c.requires.ways.1.exact);
      stays = (c.requires.ways.0, rw (c.edge-first.ensures.to, c.graph.ensures.value) c.requires.ways.1.stays);
      small = rw (c.edge-first.ensures.metric, c.graph.ensures.value) (omega (arith, link.3));
      whole = rw (c.edge-first.ensures.to, c.edge-first.ensures.metric, c.graph.ensures.value) ((λ a. a, λ a. a));
    }

pub cost_over-total-requires-clause-exact : goal.cost_over-total-requires-clause-exact
cost_over-total-requires-clause-exact c =
    let lt = rw c.as_slice-segment-items.ensures at c.loop-segment-test.true in
    let next = stands-next c.args.certificate.now.segments c.loop-segment.segment-index c.loop-segment.place c.args.certificate.now.rows lt c.loop-segment.invariant.stands in
    rw (c.as_slice-rows.ensures, c.as_slice-segment-items.ensures)
    ((exact-at c.args.net.now c.args.certificate.now.segments c.loop-segment.segment-index lt c.loop-segment.at.0 _ refl c.args.certificate.now.dest.0 c.args.certificate.now.rows c.loop-segment.place next.0).0 c.loop-segment.invariant.exact).0

pub cost_over-total-requires-clause-stays : goal.cost_over-total-requires-clause-stays
cost_over-total-requires-clause-stays c =
    let lt = rw c.as_slice-segment-items.ensures at c.loop-segment-test.true in (
      c.loop-segment.invariant.stays.0,
      rw c.as_slice-segment-items.ensures
          ((stays-at c.args.net.now c.loop-segment.invariant.stays.0 c.args.certificate.now.segments c.loop-segment.segment-index lt c.loop-segment.at.0 _ refl c.args.certificate.now.dest.0).0 c.loop-segment.invariant.stays.1).0,
    )

pub returns-then-total-whole : goal.returns-then-total-whole
returns-then-total-whole c =
    let lt = rw c.as_slice-segment-items.ensures at c.loop-segment-test.true in
    let split = adds-at c.args.net.now c.args.certificate.now.dest.0 c.args.certificate.now.segments c.loop-segment.segment-index lt c.loop-segment.at.0 _ c.loop-segment.total c.cost_over-total.result c.args.whole refl (rw c.as_slice-segment-items.ensures at c.cost_over-total.ensures.cost) in
    refused (λ sum. let k = split.0 (c.loop-segment.invariant.whole.1 sum) in omega (arith, k.2, c.if-total-whole.true))

pub loop-segment-preserved : goal.loop-segment-preserved
loop-segment-preserved c =
    let lt = rw c.as_slice-segment-items.ensures at c.loop-segment-test.true in
    let next = stands-next c.args.certificate.now.segments c.loop-segment.segment-index c.loop-segment.place c.args.certificate.now.rows lt c.loop-segment.invariant.stands in
    let rows_is : c.row_count-place.result ≡ rows_of (segment_at c.args.certificate.now.segments c.loop-segment.segment-index) = rw c.as_slice-segment-items.ensures at c.row_count-place.ensures in
    let to = rw c.as_slice-segment-items.ensures at c.led_to-at.ensures.end in
    record {
      at = c.led_to-at.ensures.within;
      stands = rw rows_is next.1;
      exact = rw rows_is ((exact-at c.args.net.now c.args.certificate.now.segments c.loop-segment.segment-index lt c.loop-segment.at.0 c.led_to-at.result.0 to c.args.certificate.now.dest.0 c.args.certificate.now.rows c.loop-segment.place next.0).0 c.loop-segment.invariant.exact).1;
      stays = (c.loop-segment.invariant.stays.0, ((stays-at c.args.net.now c.loop-segment.invariant.stays.0 c.args.certificate.now.segments c.loop-segment.segment-index lt c.loop-segment.at.0 c.led_to-at.result.0 to c.args.certificate.now.dest.0).0 c.loop-segment.invariant.stays.1).1);
      small = omega (arith, c.requires.near, c.if-total-whole.false);
      whole = both-ways
          (turned (adds-at c.args.net.now c.args.certificate.now.dest.0 c.args.certificate.now.segments c.loop-segment.segment-index lt c.loop-segment.at.0 c.led_to-at.result.0 c.loop-segment.total c.cost_over-total.result c.args.whole to (rw c.as_slice-segment-items.ensures at c.cost_over-total.ensures.cost)))
          c.loop-segment.invariant.whole;
    }

pub cost_over-requires-clause-exact : goal.cost_over-requires-clause-exact
cost_over-requires-clause-exact c =
    let le = rw c.as_slice-segment-items.ensures at c.loop-segment.auto.segment-index-end in
    let ge = rw c.as_slice-segment-items.ensures at c.loop-segment-test.false in
    let all = stands-end c.args.certificate.now.segments c.loop-segment.segment-index c.loop-segment.place c.args.certificate.now.rows le ge c.loop-segment.invariant.stands in
    rw c.as_slice-rows.ensures
    ((exact-end c.args.net.now c.args.certificate.now.segments c.loop-segment.segment-index le ge c.loop-segment.at.0 c.args.certificate.now.dest c.args.certificate.now.rows c.loop-segment.place all).0 c.loop-segment.invariant.exact)

pub cost_over-requires-clause-stays : goal.cost_over-requires-clause-stays
cost_over-requires-clause-stays c =
    let le = rw c.as_slice-segment-items.ensures at c.loop-segment.auto.segment-index-end in
    let ge = rw c.as_slice-segment-items.ensures at c.loop-segment-test.false in
    (c.loop-segment.invariant.stays.0, (stays-end c.args.net.now c.loop-segment.invariant.stays.0 c.args.certificate.now.segments c.loop-segment.segment-index le ge c.loop-segment.at.0 c.args.certificate.now.dest).0 c.loop-segment.invariant.stays.1)

pub returns : goal.returns
returns c =
    let le = rw c.as_slice-segment-items.ensures at c.loop-segment.auto.segment-index-end in
    let ge = rw c.as_slice-segment-items.ensures at c.loop-segment-test.false in
    both-ways
    (both-ways (told-equal (c.loop-segment.total + c.cost_over.result) c.args.whole) (adds-end c.args.net.now c.args.certificate.now.dest c.args.certificate.now.segments c.loop-segment.segment-index le ge c.loop-segment.at.0 c.loop-segment.total c.cost_over.result c.args.whole c.cost_over.ensures.cost))
    c.loop-segment.invariant.whole
