use Rattle.sr_lanes.specs.Bits.{member_count}
use Rattle.sr_repair.proofs.RowLemmas.{IsWriting}
use Rattle.sr_repair.proofs.row.changed_from.Given as goal

abbrev pub invariant-left : goal.invariant-left
invariant-left l = IsWriting l.base l.cells l.left l.changed.items

abbrev pub decreases-left : goal.decreases-left
decreases-left l = member_count l.left
