-- the ranges behind
use Rattle.std.proofs.Common.{length, ◌-◌}
use Rattle.sr_subtlv.proofs.SrCapLaws.{RangesSoFar}
use Rattle.sr_subtlv.proofs.sr_cap.read_ranges.Given as goal

abbrev pub invariant-loop-at : goal.invariant-loop-at
invariant-loop-at l = RangesSoFar l.octets l.at l.ranges.items

abbrev pub decreases-loop-at : goal.decreases-loop-at
decreases-loop-at l = length l.octets - l.at
