use Rattle.std.proofs.Common.{◌≡◌, ◌+◌, ◌-◌, length, refl, arith}
use Rattle.sr_cert.proofs.ToldLemmas.{refused, stops-here, goes-on}
use Rattle.sr_cert.proofs.LabelLemmas.{labels-length, labels-at, segment-label-one}
use Rattle.sr_cert.proofs.labelled.are_labels.Goals as goal

pub returns-then-labels-segments : goal.returns-then-labels-segments
returns-then-labels-segments c = refused (λ a. c.if-labels-segments.true (labels-length c.args.net.now c.args.begin.0 c.args.segments.now c.args.d c.args.labels.now a))

pub returns-then-labels-place : goal.returns-then-labels-place
returns-then-labels-place c =
    let count : c.loop-segment.place - 1 + c.loop-segment.segment-index + 1 ≡ length c.args.labels.now = omega (arith, c.loop-segment.invariant.place, c.if-labels-segments.false, c.loop-segment-test.true) in
    refused (stops-here
    (labels-at c.args.net.now c.args.segments.now c.loop-segment.segment-index c.loop-segment-test.true c.loop-segment.at.0 _ refl c.args.d c.args.labels.now (c.loop-segment.place - 1) count)
    c.loop-segment.invariant.whole
    (λ is. c.if-labels-place.true (segment-label-one c.args.net.now c.loop-segment.at.0 _ _ _ is c.segment_label.ensures)))

pub loop-segment-preserved : goal.loop-segment-preserved
loop-segment-preserved c =
    let count : c.loop-segment.place - 1 + c.loop-segment.segment-index + 1 ≡ length c.args.labels.now = omega (arith, c.loop-segment.invariant.place, c.if-labels-segments.false, c.loop-segment-test.true) in
    record {
      at = c.segment_end-at.ensures.within;
      place = omega (arith, count);
      whole = goes-on
          (labels-at c.args.net.now c.args.segments.now c.loop-segment.segment-index c.loop-segment-test.true c.loop-segment.at.0 c.segment_end-at.result.0 c.segment_end-at.ensures.end c.args.d c.args.labels.now (c.loop-segment.place - 1) count)
          c.loop-segment.invariant.whole
          (rw c.if-labels-place.false c.segment_label.ensures);
    }
