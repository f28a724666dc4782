use Rattle.std.proofs.Common.{◌≡◌, refl, arith}
use Rattle.sr_repair.specs.Stack.{segment_at}
use Rattle.sr_cert.specs.Walked.{rows_of}
use Rattle.sr_cert.proofs.ToldLemmas.{refused, stops-here, goes-on, both-ways, turned, holds, lacks}
use Rattle.sr_cert.proofs.WalkedLemmas.{asked-begin, within-each, goes-on-drop, stands-next, stands-end, exact-at, exact-end, stays-at, stays-end}
use Rattle.sr_cert.proofs.walked.stays_in_spaces.Goals as goal

pub loop-segment-init : goal.loop-segment-init
loop-segment-init c =
    let count = asked-begin c.args.net.now c.args.certificate.now c.requires.rows in
    record {
      at = rw (c.edge.ensures.to, c.graph.ensures.value) ((rw c.graph.ensures.value at c.edge.ensures.graph).each c.args.certificate.now.first.0 c.requires.within.first).1;
      stands = count;
      exact = rw (c.edge.ensures.to, c.graph.ensures.value) ((goes-on-drop c.args.net.now c.args.certificate.now c.args.certificate.now.rows (omega (arith, count))).1 c.requires.exact);
      whole = rw (c.edge.ensures.to, c.graph.ensures.value) ((λ a. a, λ a. a));
    }

pub stays_over-requires-clause-place : goal.stays_over-requires-clause-place
stays_over-requires-clause-place c =
    let lt = rw c.as_slice-segment-items.ensures at c.loop-segment-test.true in
    record {
      at = c.loop-segment.invariant.at;
      within = rw c.as_slice-segment-items.ensures (within-each c.args.net.now c.args.certificate.now.segments c.requires.within.segments c.loop-segment.segment-index lt);
      inside = rw (c.as_slice-rows.ensures, c.as_slice-segment-items.ensures) (stands-next c.args.certificate.now.segments c.loop-segment.segment-index c.loop-segment.place c.args.certificate.now.rows lt c.loop-segment.invariant.stands).0;
    }

pub stays_over-requires-clause-exact : goal.stays_over-requires-clause-exact
stays_over-requires-clause-exact c =
    let lt = rw c.as_slice-segment-items.ensures at c.loop-segment-test.true in
    let next = stands-next c.args.certificate.now.segments c.loop-segment.segment-index c.loop-segment.place c.args.certificate.now.rows lt c.loop-segment.invariant.stands in
    rw (c.as_slice-rows.ensures, c.as_slice-segment-items.ensures)
    ((exact-at c.args.net.now c.args.certificate.now.segments c.loop-segment.segment-index lt c.loop-segment.at.0 _ refl c.args.certificate.now.dest.0 c.args.certificate.now.rows c.loop-segment.place next.0).0 c.loop-segment.invariant.exact).0

pub returns-then-not-stays_over : goal.returns-then-not-stays_over
returns-then-not-stays_over c =
    let lt = rw c.as_slice-segment-items.ensures at c.loop-segment-test.true in
    refused (stops-here
    (stays-at c.args.net.now c.args.x.now c.args.certificate.now.segments c.loop-segment.segment-index lt c.loop-segment.at.0 _ refl c.args.certificate.now.dest.0)
    c.loop-segment.invariant.whole
    (lacks c.stays_over.result (rw c.as_slice-segment-items.ensures at c.stays_over.ensures) c.if-not-stays_over.true))

pub loop-segment-preserved : goal.loop-segment-preserved
loop-segment-preserved c =
    let lt = rw c.as_slice-segment-items.ensures at c.loop-segment-test.true in
    let next = stands-next c.args.certificate.now.segments c.loop-segment.segment-index c.loop-segment.place c.args.certificate.now.rows lt c.loop-segment.invariant.stands in
    let rows_is : c.row_count-place.result ≡ rows_of (segment_at c.args.certificate.now.segments c.loop-segment.segment-index) = rw c.as_slice-segment-items.ensures at c.row_count-place.ensures in
    let to = rw c.as_slice-segment-items.ensures at c.led_to-at.ensures.end in
    record {
      at = c.led_to-at.ensures.within;
      stands = rw rows_is next.1;
      exact = rw rows_is ((exact-at c.args.net.now c.args.certificate.now.segments c.loop-segment.segment-index lt c.loop-segment.at.0 c.led_to-at.result.0 to c.args.certificate.now.dest.0 c.args.certificate.now.rows c.loop-segment.place next.0).0 c.loop-segment.invariant.exact).1;
      whole = goes-on
          (stays-at c.args.net.now c.args.x.now c.args.certificate.now.segments c.loop-segment.segment-index lt c.loop-segment.at.0 c.led_to-at.result.0 to c.args.certificate.now.dest.0)
          c.loop-segment.invariant.whole
          (holds c.stays_over.result (rw c.as_slice-segment-items.ensures at c.stays_over.ensures) c.if-not-stays_over.false);
    }

pub stays_over-requires-2-clause-place : goal.stays_over-requires-2-clause-place
stays_over-requires-2-clause-place c =
    let le = rw c.as_slice-segment-items.ensures at c.loop-segment.auto.segment-index-end in
    let ge = rw c.as_slice-segment-items.ensures at c.loop-segment-test.false in
    record {
      at = c.loop-segment.invariant.at;
      within = c.requires.within.dest;
      inside = rw c.as_slice-rows.ensures (omega (arith, stands-end c.args.certificate.now.segments c.loop-segment.segment-index c.loop-segment.place c.args.certificate.now.rows le ge c.loop-segment.invariant.stands));
    }

pub stays_over-requires-2-clause-exact : goal.stays_over-requires-2-clause-exact
stays_over-requires-2-clause-exact c =
    let le = rw c.as_slice-segment-items.ensures at c.loop-segment.auto.segment-index-end in
    let ge = rw c.as_slice-segment-items.ensures at c.loop-segment-test.false in
    let all = stands-end c.args.certificate.now.segments c.loop-segment.segment-index c.loop-segment.place c.args.certificate.now.rows le ge c.loop-segment.invariant.stands in
    rw c.as_slice-rows.ensures
    ((exact-end c.args.net.now c.args.certificate.now.segments c.loop-segment.segment-index le ge c.loop-segment.at.0 c.args.certificate.now.dest c.args.certificate.now.rows c.loop-segment.place all).0 c.loop-segment.invariant.exact)

pub returns : goal.returns
returns c =
    let le = rw c.as_slice-segment-items.ensures at c.loop-segment.auto.segment-index-end in
    let ge = rw c.as_slice-segment-items.ensures at c.loop-segment-test.false in
    both-ways c.stays_over-2.ensures
    (both-ways (turned (stays-end c.args.net.now c.args.x.now c.args.certificate.now.segments c.loop-segment.segment-index le ge c.loop-segment.at.0 c.args.certificate.now.dest)) c.loop-segment.invariant.whole)
