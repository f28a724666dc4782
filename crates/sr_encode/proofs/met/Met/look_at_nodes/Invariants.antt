use Rattle.sr_encode.specs.Waypoints.{Extends}
use Rattle.sr_lanes.specs.Bits.{member_count}
use Rattle.sr_encode.proofs.LookLemmas.{AreAhead}
use Rattle.sr_encode.proofs.met.Met.look_at_nodes.Given as goal

abbrev pub invariant-ends : goal.invariant-ends
invariant-ends l = AreAhead l.scene l.self.queue.items l.self.unmet l.i l.ends × Extends l.fn.self.queue.items l.self.queue.items

abbrev pub decreases-ends : goal.decreases-ends
decreases-ends l = member_count l.ends
