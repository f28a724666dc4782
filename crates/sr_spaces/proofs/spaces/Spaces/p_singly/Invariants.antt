use Rattle.sr_lanes.specs.Bits.{member_count}
use Rattle.sr_lanes.proofs.SetLemmas.{AreSifted}
use Rattle.sr_model.specs.Space.{InP}
use Rattle.sr_spaces.proofs.spaces.Spaces.p_singly.Given as goal

abbrev pub invariant-left : goal.invariant-left
invariant-left l = AreSifted (λ v. InP l.self.graph l.self.failed l.u.0 v) l.fn.among l.left l.found

abbrev pub decreases-left : goal.decreases-left
decreases-left l = member_count l.left
