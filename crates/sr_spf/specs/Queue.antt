-- What the search with a queue keeps.
use Rattle.std.specs.Prelude.{◌≡◌, ℕ, ◌+◌, ◌*◌, ◌<◌, ◌≤◌, ◌⊎◌, Bool, true, false, List, All, Contains, slice_index}
use Rattle.std.specs.declared.cmp.Reverse.{Reverse}
use Rattle.sr_model.specs.Graph.{Graph, node_count, link_count, tail, head, metric, has, carries}
use Rattle.sr_model.specs.declared.link.TheConstants.{FAR}
use Rattle.sr_spf.specs.Relax.{IsTentative}
use Rattle.sr_spf.specs.declared.dijkstra.TheConstants.{NUMBERS}

-- a node that waits, with its cell, as one number
abbrev pub entry : ℕ → ℕ → Reverse ℕ
entry cell node = record { 0 = cell * NUMBERS + node }

-- the entry is that of a node of the graph, with some cell
abbrev pub IsNodeEntry : Graph → Reverse ℕ → Type 0
IsNodeEntry g e = (c w : ℕ) × (w < node_count g) × (e ≡ entry c w)

-- a search for distances: the graph, the links that it goes without, and its source
pub record Search : Type 0 where
  pub graph : Graph
  pub without : List Bool
  pub source : ℕ

-- no link of v that a walk of the search may take would lower a cell; of node u only the links below i are meant
abbrev pub IsSettled : Search → List ℕ → ℕ → ℕ → ℕ → Type 0
IsSettled by cells u i v =
    (l : ℕ) → l < link_count by.graph → has by.without l ≡ false → carries by.graph by.source (tail by.graph l) ≡ true
    → tail by.graph l ≡ v → (v ≡ u → l < i)
    → slice_index cells (head by.graph l) ≤ slice_index cells (tail by.graph l) + metric by.graph l

-- each node that has a walk waits with its cell, or is settled
pub record IsQueued (by : Search) (cells : List ℕ) (entries : List (Reverse ℕ)) (u i : ℕ) : Type 0 where
  pub kept : IsTentative by.graph by.without by.source cells
  pub inside : All (IsNodeEntry by.graph) entries
  pub waits : (v : ℕ) → v < node_count by.graph → slice_index cells v < FAR
      → Contains entries (entry (slice_index cells v) v) ⊎ IsSettled by cells u i v
