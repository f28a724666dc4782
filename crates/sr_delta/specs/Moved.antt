-- Distances that are others in a new net.
use Rattle.std.specs.Prelude.{◌≡◌, ◌↔◌, ℕ, ◌<◌, false, List, length, Some, slice_get}
use Rattle.sr_model.specs.Graph.{Graph, node_count}
use Rattle.sr_laws.specs.Steady.{IsSameFar}
use Rattle.sr_lanes.specs.declared.words.NodeBits.{NodeBits}
use Rattle.sr_lanes.specs.Bits.{is_in}

-- from u it is as far as it was to just those nodes that aren't in the set
abbrev pub IsMovedFrom : Graph → Graph → ℕ → NodeBits → Type 0
IsMovedFrom g h u set = (v : ℕ) → v < node_count g → (is_in set v ≡ false) ↔ IsSameFar g h u v

-- the sets are those of the nodes below n
pub record AreMoved (g h : Graph) (sets : List NodeBits) (n : ℕ) : Type 0 where
  pub long : length sets ≡ n
  pub each : (u : ℕ) (set : NodeBits) → slice_get sets u ≡ Some set → IsMovedFrom g h u set
