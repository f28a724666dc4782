use Rattle.sr_lanes.specs.Bits.{member_count}
use Rattle.sr_encode.proofs.MarkLemmas.{IsMarking}
use Rattle.sr_encode.proofs.served.mark.Given as goal

abbrev pub invariant-left : goal.invariant-left
invariant-left l = IsMarking l.fn.places l.fn.nodes l.k l.left l.places

abbrev pub decreases-left : goal.decreases-left
decreases-left l = member_count l.left
