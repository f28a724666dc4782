use Rattle.sr_lanes.specs.Bits.{member_count}
use Rattle.sr_spf.proofs.ListedLemmas.{IsListing}
use Rattle.sr_spf.proofs.lost.all_listed.Given as goal

abbrev pub invariant-left : goal.invariant-left
invariant-left l = IsListing l.fn.set l.left l.nodes.items

abbrev pub decreases-left : goal.decreases-left
decreases-left l = member_count l.left
