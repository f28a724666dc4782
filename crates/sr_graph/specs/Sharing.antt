-- Links that share a group.
use Rattle.std.specs.Prelude.{◌↔◌, ℕ, ◌<◌, List, [], length, slice_index_or}
use Rattle.sr_graph.specs.Bits.{IsIn}
use Rattle.sr_graph.specs.Failed.{HaveCommon}

-- the set of link p
abbrev pub set_at : List (List ℕ) → ℕ → List ℕ
set_at sets p = slice_index_or sets p []

-- the set of each link has the links that share a group with it
pub record AreSharing (groups sets : List (List ℕ)) : Type 0 where
  pub each : (p l : ℕ) → p < length groups → l < length groups
      → IsIn (set_at sets p) l ↔ HaveCommon (slice_index_or groups l []) (slice_index_or groups p [])
