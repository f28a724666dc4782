use Rattle.std.proofs.Common.{arith, subst, Bool, IsTrue, refl}
use Rattle.sr_diff.proofs.SegmentLemmas.{segments-same, segments-at}
use Rattle.sr_diff.proofs.alike.same_segments.Goals as goal

pub returns-then-not-same_segment : goal.returns-then-not-same_segment
returns-then-not-same_segment c = (
  λ t. absurd (cc (t)),
  λ e.
      subst (λ (b : Bool). IsTrue b) c.if-not-same_segment.true
      (c.same_segment.ensures.1 (segments-at c.args.old.now.graph c.args.new.now.graph c.args.segments.now c.args.others.now e c.loop-k.k c.loop-k-test.true)),
)

pub returns : goal.returns
returns c = (
  λ t.
      segments-same c.args.old.now.graph c.args.new.now.graph c.args.segments.now c.args.others.now c.if-segments-others.false
      (λ j lt. c.loop-k.invariant j (omega (arith, lt, c.loop-k-test.false))),
  λ e. refl,
)
