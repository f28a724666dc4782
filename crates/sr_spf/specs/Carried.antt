-- The nodes towards which a link leads, as sets.
use Rattle.std.specs.Prelude.{◌≡◌, ◌↔◌, ℕ, IsTrue, List, [], length, Some, slice_get}
use Rattle.sr_lanes.specs.Bits.{is_in}
use Rattle.sr_lanes.specs.declared.words.NodeBits.{NodeBits}
use Rattle.sr_model.specs.Graph.{Graph, tail}
use Rattle.sr_model.specs.Walk.{IsNextHop}

-- the set has the nodes towards which link l is a next hop from where it begins
pub record IsCarried (g : Graph) (l : ℕ) (set : NodeBits) : Type 0 where
  pub each : (v : ℕ) → IsTrue (is_in set v) ↔ IsNextHop g [] (tail g l) v l

-- the sets are those of the links below n
pub record AreCarried (g : Graph) (sets : List NodeBits) (n : ℕ) : Type 0 where
  pub long : length sets ≡ n
  pub each : (l : ℕ) (set : NodeBits) → slice_get sets l ≡ Some set → IsCarried g l set
