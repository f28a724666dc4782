-- Nodes to which a distance may be another in the new net.
use Rattle.std.specs.Prelude.{◌≡◌, ◌≢◌, ◌↔◌, ℕ, ◌+◌, ◌<◌, ◌≤◌, ◌⊎◌, Bool, true, false, Some, List, length, slice_get, slice_index}
use Rattle.sr_lanes.specs.Bits.{is_in}
use Rattle.sr_lanes.specs.declared.words.NodeBits.{NodeBits}
use Rattle.sr_model.specs.declared.link.TheConstants.{FAR}
use Rattle.sr_model.specs.Graph.{Graph, node_count, carries, has}
use Rattle.sr_spf.specs.Trees.{row_at}
use Rattle.sr_delta.specs.declared.change.Change.{Change}
use Rattle.sr_delta.specs.Changed.{change_at}
use Rattle.sr_delta.specs.Idle.{IsIdleChange}

-- by the rows of distances a shortest walk from u to v may run through w, or ends there
pub record IsPast (g : Graph) (rows : List (List ℕ)) (u w v : ℕ) : Type 0 where
  pub carry : carries g v w ≡ true
  pub sum : slice_index (row_at rows u) w + slice_index (row_at rows w) v ≡ slice_index (row_at rows u) v

-- v is past the end of one of the first n changed links, which isn't idle for the distances from u
abbrev pub IsPastOneOf : Graph → List (List ℕ) → List Change → ℕ → ℕ → ℕ → Type 0
IsPastOneOf g rows links n u v =
    (k : ℕ) × (k < n) × (IsIdleChange (row_at rows u) (change_at links k) → ⊥)
    × IsPast g rows u (change_at links k).to.0 v

-- the set has the nodes to which there is no walk from u, and those that are past one of the first n changed links
pub record AreLostToFirst (g : Graph) (rows : List (List ℕ)) (links : List Change) (n u : ℕ) (set : NodeBits)
    : Type 0 where
  pub within : (v : ℕ) → is_in set v ≡ true → v < node_count g
  pub each : (v : ℕ) → v < node_count g
      → (is_in set v ≡ true) ↔ ((FAR ≤ slice_index (row_at rows u) v) ⊎ IsPastOneOf g rows links n u v)

-- so it is with all changed links, but for u itself
pub record AreLostToChanges (g : Graph) (rows : List (List ℕ)) (links : List Change) (u : ℕ) (set : NodeBits)
    : Type 0 where
  pub within : (v : ℕ) → is_in set v ≡ true → v < node_count g
  pub each : (v : ℕ) → v < node_count g
      → (is_in set v ≡ true)
      ↔ ((v ≢ u) × ((FAR ≤ slice_index (row_at rows u) v) ⊎ IsPastOneOf g rows links (length links) u v))

-- the sets of the first n nodes, as far as they aren't marked
pub record AreLostSetsBelow (g : Graph) (rows : List (List ℕ)) (links : List Change) (marks : List Bool) (n : ℕ)
    (sets : List NodeBits) : Type 0 where
  pub long : length sets ≡ n
  pub each : (u : ℕ) (set : NodeBits) → u < n → has marks u ≡ false → slice_get sets u ≡ Some set
      → AreLostToChanges g rows links u set

-- the sets of the nodes, by number, as far as they aren't marked
abbrev pub AreLostSets : Graph → List (List ℕ) → List Change → List Bool → List NodeBits → Type 0
AreLostSets g rows links marks sets = AreLostSetsBelow g rows links marks (node_count g) sets
