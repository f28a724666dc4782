use Rattle.std.proofs.Common.{◌≡◌, true}
use Rattle.sr_lanes.specs.Bits.{member_count}
use Rattle.sr_lanes.specs.Passes.{has_distance}
use Rattle.sr_lanes.proofs.SetLemmas.{AreSifted}
use Rattle.sr_lanes.proofs.passes.finite_singly.Given as goal

abbrev pub invariant-left : goal.invariant-left
invariant-left l = AreSifted (λ v. has_distance l.row v ≡ true) l.fn.among l.left l.found

abbrev pub decreases-left : goal.decreases-left
decreases-left l = member_count l.left
