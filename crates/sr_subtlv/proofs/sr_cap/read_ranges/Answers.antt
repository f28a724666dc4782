use Rattle.std.proofs.Common.{◌+◌, List, sym, subst}
use Rattle.sr_model.specs.declared.label.Range.{Range}
use Rattle.sr_subtlv.proofs.SrCapLaws.{RangesSoFar, all_ranges, not_ranges, one_range}
use Rattle.sr_subtlv.proofs.sr_cap.read_ranges.Goals as goal

pub loop-at-preserved : goal.loop-at-preserved
loop-at-preserved c =
    let P : List Range → Type 0 = λ rs. RangesSoFar c.args.octets.now (c.loop-at.at + 8) rs in
    subst P (sym c.in_ok-push-in-Some.ensures.items)
    (one_range c.args.octets.now c.loop-at.at c.loop-at.ranges.items c.in-Some.range c.loop-at.invariant c.in-Some.ensures.whole c.in-Some.ensures.range)

pub returns-in-None : goal.returns-in-None
returns-in-None c = not_ranges c.args.octets.now c.loop-at.at c.loop-at.ranges.items c.loop-at.invariant c.loop-at-test.true c.in-None.ensures.range

pub returns : goal.returns
returns c = all_ranges c.args.octets.now c.loop-at.at c.loop-at.ranges.items c.loop-at.invariant c.loop-at-test.false
