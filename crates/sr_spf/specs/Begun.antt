-- Searches that go on from known distances.
use Rattle.std.specs.Prelude.{◌≡◌, ℕ, ◌+◌, ◌<◌, ◌≤◌, ◌⊎◌, Bool, true, false, List, length, All, Contains, slice_index, slice_index_or}
use Rattle.std.specs.declared.cmp.Reverse.{Reverse}
use Rattle.sr_model.specs.declared.link.NodeNo.{NodeNo}
use Rattle.sr_model.specs.declared.link.TheConstants.{FAR}
use Rattle.sr_model.specs.Graph.{Graph, node_count, link_count, tail, head, metric, has, carries, IsGraph}
use Rattle.sr_spf.specs.Relax.{IsTentative}
use Rattle.sr_spf.specs.Queue.{entry, IsNodeEntry, Search}

-- v is s, or a link outside x that a walk from s may take leads along the cells to v
abbrev pub HasWay : Graph → List Bool → ℕ → List ℕ → ℕ → Type 0
HasWay g x s cells v =
    (v ≡ s) ⊎ ((l : ℕ) × (l < link_count g) × (has x l ≡ false) × (carries g s (tail g l) ≡ true)
    × (slice_index cells (tail g l) < FAR) × (head g l ≡ v)
    × (slice_index cells (tail g l) + metric g l ≡ slice_index cells v))

-- what is known before a search from s: a node with a cell has a way along the cells, the others are listed as
-- lost, and no link between nodes with cells would lower one
pub record IsBegun (g : Graph) (x : List Bool) (s : ℕ) (cells : List ℕ) (lost : List NodeNo) : Type 0 where
  pub graph : IsGraph g
  pub long : length cells ≡ node_count g
  pub within : s < node_count g
  pub source : slice_index cells s ≡ 0
  pub top : (v : ℕ) → slice_index cells v ≤ FAR
  pub ways : (v : ℕ) → v < node_count g → slice_index cells v < FAR → HasWay g x s cells v
  pub listed : (v : ℕ) → v < node_count g → FAR ≤ slice_index cells v → Contains lost (record { 0 = v })
  pub nodes : All (λ (n : NodeNo). n.0 < node_count g) lost
  pub stable : (l : ℕ) → l < link_count g → has x l ≡ false → carries g s (tail g l) ≡ true
      → slice_index cells (tail g l) < FAR → slice_index cells (head g l) < FAR
      → slice_index cells (head g l) ≤ slice_index cells (tail g l) + metric g l

-- v stands at place i of the list or behind it
abbrev pub StandsFrom : List NodeNo → ℕ → ℕ → Type 0
StandsFrom lost i v =
    (j : ℕ) × (i ≤ j) × (j < length lost) × (slice_index_or lost j (record { 0 = v }) ≡ record { 0 = v })

-- a link of v that a walk of the search may take would lower no cell, or leads to a node that stands at place i of the
-- list or behind it
abbrev pub IsSettledBefore : Search → List ℕ → List NodeNo → ℕ → ℕ → Type 0
IsSettledBefore by cells lost i v =
    (l : ℕ) → l < link_count by.graph → has by.without l ≡ false → carries by.graph by.source (tail by.graph l) ≡ true
    → tail by.graph l ≡ v
    → StandsFrom lost i (head by.graph l)
    ⊎ (slice_index cells (head by.graph l) ≤ slice_index cells (tail by.graph l) + metric by.graph l)

-- the lost nodes before place i were entered: each node that has a walk waits with its cell, or is settled but for
-- the others
pub record IsEntered (by : Search) (cells : List ℕ) (entries : List (Reverse ℕ)) (lost : List NodeNo)
    (i : ℕ) : Type 0 where
  pub kept : IsTentative by.graph by.without by.source cells
  pub inside : All (IsNodeEntry by.graph) entries
  pub waits : (v : ℕ) → v < node_count by.graph → slice_index cells v < FAR
      → Contains entries (entry (slice_index cells v) v) ⊎ IsSettledBefore by cells lost i v

-- a number for each node, of at most FAR
pub record HasCells (g : Graph) (cells : List ℕ) : Type 0 where
  pub long : length cells ≡ node_count g
  pub top : (v : ℕ) → v < node_count g → slice_index cells v ≤ FAR

-- c is the cell of v, or the least sum of the cell of another node and a link from there, if that is less
pub record IsLeastWay (g : Graph) (x : List Bool) (s : ℕ) (cells : List ℕ) (v c : ℕ) : Type 0 where
  pub cell : c ≤ slice_index cells v
  pub least : (l : ℕ) → l < link_count g → has x l ≡ false → carries g s (tail g l) ≡ true → head g l ≡ v
      → c ≤ slice_index cells (tail g l) + metric g l
  pub way : c < slice_index cells v → (l : ℕ) × (l < link_count g) × (has x l ≡ false)
      × (carries g s (tail g l) ≡ true) × (head g l ≡ v) × (slice_index cells (tail g l) + metric g l ≡ c)
