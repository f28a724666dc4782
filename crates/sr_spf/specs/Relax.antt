-- What the search for distances keeps.
use Rattle.std.specs.Prelude.{◌≡◌, ℕ, ◌+◌, ◌*◌, ◌<◌, ◌≤◌, nat_lt, Bool, List, length, count_by, slice_index, slice_set, if◌then◌else◌}
use Rattle.sr_model.specs.Graph.{Graph, node_count, IsGraph}
use Rattle.sr_model.specs.declared.link.TheConstants.{FAR, MOST_METRIC}
use Rattle.sr_model.specs.Walk.{IsWalk, cost}

-- the way over a link of metric m from node u to node v is shorter than the cell of v
abbrev pub falls : ℕ → ℕ → ℕ → List ℕ → Bool
falls u v m cells = nat_lt (slice_index cells u + m) (slice_index cells v)

-- the cells after such a link was tried
abbrev pub relaxed : ℕ → ℕ → ℕ → List ℕ → List ℕ
relaxed u v m cells = if falls u v m cells then slice_set cells v (slice_index cells u + m) else cells

-- how many nodes have a walk so far
abbrev pub near_count : List ℕ → ℕ
near_count cells = count_by (λ c. nat_lt c FAR) cells

-- each cell below FAR is what some walk costs, and no more than the nodes that have a walk allow
pub record IsTentative (g : Graph) (x : List Bool) (s : ℕ) (cells : List ℕ) : Type 0 where
  pub graph : IsGraph g
  pub long : length cells ≡ node_count g
  pub source : slice_index cells s ≡ 0
  pub within : s < node_count g
  pub top : (v : ℕ) → slice_index cells v ≤ FAR
  pub reached : (v : ℕ) → v < node_count g → slice_index cells v < FAR
      → (p : List ℕ) × IsWalk g x s p v × (cost g p ≡ slice_index cells v)
  pub bound : (v : ℕ) → v < node_count g → slice_index cells v < FAR
      → slice_index cells v + MOST_METRIC ≤ MOST_METRIC * near_count cells
