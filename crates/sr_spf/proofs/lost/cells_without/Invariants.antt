use Rattle.sr_lanes.specs.Bits.{member_count}
use Rattle.sr_spf.proofs.ListedLemmas.{IsClearing}
use Rattle.sr_spf.proofs.lost.cells_without.Given as goal

abbrev pub invariant-left : goal.invariant-left
invariant-left l = IsClearing l.row l.fn.lost l.left l.cells.items

abbrev pub decreases-left : goal.decreases-left
decreases-left l = member_count l.left
