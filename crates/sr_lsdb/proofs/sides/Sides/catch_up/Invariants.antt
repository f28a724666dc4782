use Rattle.std.proofs.Common.{◌≡◌, length}
use Rattle.sr_lsdb.specs.Sides.{IsNoted}
use Rattle.sr_lsdb.proofs.sides.Sides.catch_up.Given as goal

abbrev pub invariant-loop-self : goal.invariant-loop-self
invariant-loop-self l = record { accepted : l.self.front ≡ l.fn.self.front; noted : IsNoted l.self }

abbrev pub decreases-loop-self : goal.decreases-loop-self
decreases-loop-self l = length l.self.touched.items
