use Rattle.std.proofs.Common.{◌≡◌, refl, arith}
use Rattle.sr_repair.specs.Stack.{segment_at}
use Rattle.sr_cert.specs.Walked.{rows_of}
use Rattle.sr_cert.proofs.ToldLemmas.{refused, stops-here, goes-on, both-ways, turned, holds, lacks}
use Rattle.sr_cert.proofs.WalkedLemmas.{asked-begin, within-each, goes-on-drop, stands-next, stands-end, exact-at, exact-end}
use Rattle.sr_cert.proofs.walked.goes_on_exact.Goals as goal

pub loop-segment-init : goal.loop-segment-init
loop-segment-init c =
    let count = asked-begin c.args.net.now c.args.certificate.now c.requires.rows in
    record {
      at = rw (c.edge.ensures.to, c.graph.ensures.value) ((rw c.graph.ensures.value at c.edge.ensures.graph).each c.args.certificate.now.first.0 c.requires.within.first).1;
      stands = count;
      whole = rw (c.edge.ensures.to, c.graph.ensures.value) (goes-on-drop c.args.net.now c.args.certificate.now c.args.certificate.now.rows (omega (arith, count)));
    }

pub exact_over-requires-clause-place : goal.exact_over-requires-clause-place
exact_over-requires-clause-place c =
    let lt = rw c.as_slice-segment-items.ensures at c.loop-segment-test.true in
    record {
      at = c.loop-segment.invariant.at;
      within = rw c.as_slice-segment-items.ensures (within-each c.args.net.now c.args.certificate.now.segments c.requires.within.segments c.loop-segment.segment-index lt);
      inside = rw (c.as_slice-rows.ensures, c.as_slice-segment-items.ensures) (stands-next c.args.certificate.now.segments c.loop-segment.segment-index c.loop-segment.place c.args.certificate.now.rows lt c.loop-segment.invariant.stands).0;
    }

pub returns-then-not-exact_over : goal.returns-then-not-exact_over
returns-then-not-exact_over c =
    let lt = rw c.as_slice-segment-items.ensures at c.loop-segment-test.true in
    let next = stands-next c.args.certificate.now.segments c.loop-segment.segment-index c.loop-segment.place c.args.certificate.now.rows lt c.loop-segment.invariant.stands in
    refused (stops-here
    (exact-at c.args.net.now c.args.certificate.now.segments c.loop-segment.segment-index lt c.loop-segment.at.0 _ refl c.args.certificate.now.dest.0 c.args.certificate.now.rows c.loop-segment.place next.0)
    c.loop-segment.invariant.whole
    (lacks c.exact_over.result (rw (c.as_slice-rows.ensures, c.as_slice-segment-items.ensures) at c.exact_over.ensures) c.if-not-exact_over.true))

pub loop-segment-preserved : goal.loop-segment-preserved
loop-segment-preserved c =
    let lt = rw c.as_slice-segment-items.ensures at c.loop-segment-test.true in
    let next = stands-next c.args.certificate.now.segments c.loop-segment.segment-index c.loop-segment.place c.args.certificate.now.rows lt c.loop-segment.invariant.stands in
    let rows_is : c.row_count-place.result ≡ rows_of (segment_at c.args.certificate.now.segments c.loop-segment.segment-index) = rw c.as_slice-segment-items.ensures at c.row_count-place.ensures in
    record {
      at = c.led_to-at.ensures.within;
      stands = rw rows_is next.1;
      whole = rw rows_is (goes-on
          (exact-at c.args.net.now c.args.certificate.now.segments c.loop-segment.segment-index lt c.loop-segment.at.0 c.led_to-at.result.0 (rw c.as_slice-segment-items.ensures at c.led_to-at.ensures.end) c.args.certificate.now.dest.0 c.args.certificate.now.rows c.loop-segment.place next.0)
          c.loop-segment.invariant.whole
          (holds c.exact_over.result (rw (c.as_slice-rows.ensures, c.as_slice-segment-items.ensures) at c.exact_over.ensures) c.if-not-exact_over.false));
    }

pub exact_over-requires-2-clause-place : goal.exact_over-requires-2-clause-place
exact_over-requires-2-clause-place c =
    let le = rw c.as_slice-segment-items.ensures at c.loop-segment.auto.segment-index-end in
    let ge = rw c.as_slice-segment-items.ensures at c.loop-segment-test.false in
    record {
      at = c.loop-segment.invariant.at;
      within = c.requires.within.dest;
      inside = rw c.as_slice-rows.ensures (omega (arith, stands-end c.args.certificate.now.segments c.loop-segment.segment-index c.loop-segment.place c.args.certificate.now.rows le ge c.loop-segment.invariant.stands));
    }

pub returns : goal.returns
returns c =
    let le = rw c.as_slice-segment-items.ensures at c.loop-segment.auto.segment-index-end in
    let ge = rw c.as_slice-segment-items.ensures at c.loop-segment-test.false in
    let all = stands-end c.args.certificate.now.segments c.loop-segment.segment-index c.loop-segment.place c.args.certificate.now.rows le ge c.loop-segment.invariant.stands in
    both-ways (rw c.as_slice-rows.ensures at c.exact_over-2.ensures)
    (both-ways (turned (exact-end c.args.net.now c.args.certificate.now.segments c.loop-segment.segment-index le ge c.loop-segment.at.0 c.args.certificate.now.dest c.args.certificate.now.rows c.loop-segment.place all)) c.loop-segment.invariant.whole)
