-- Shortest-path trees of all nodes: a row of distances and the next hops from each.
use Rattle.std.specs.Prelude.{◌≡◌, ℕ, ◌+◌, ◌<◌, ◌≤◌, nat_lt, if◌then◌else◌, List, [], length, Option, Some, None, slice_index, slice_index_or}
use Rattle.sr_model.specs.declared.link.TheConstants.{FAR, MOST_NODES}
use Rattle.sr_model.specs.declared.link.LinkNo.{LinkNo}
use Rattle.sr_lanes.specs.declared.words.NodeBits.{NodeBits}
use Rattle.sr_model.specs.Graph.{Graph, IsGraph, node_count, link_count}
use Rattle.sr_model.specs.Walk.{IsRow}
use Rattle.sr_spf.specs.Carried.{AreCarried}
use Rattle.sr_spf.specs.Hops.{AreNextHops, AreHopsFrom, HopLists, hops_to}

-- the distances from node u
abbrev pub row_at : List (List ℕ) → ℕ → List ℕ
row_at rows u = slice_index_or rows u []

-- the next hops from node u, as they are kept
abbrev pub lists_at : List HopLists → ℕ → HopLists
lists_at hops u = slice_index_or hops u (record { starts = []; links = [] })

-- the rows are those of the nodes below n
pub record AreRows (g : Graph) (rows : List (List ℕ)) (n : ℕ) : Type 0 where
  pub graph : IsGraph g
  pub long : length rows ≡ n
  pub each : (u : ℕ) → u < n → IsRow g [] u (row_at rows u)

-- the lists are those of the next hops from the nodes below n
pub record AreHopTables (g : Graph) (hops : List HopLists) (n : ℕ) : Type 0 where
  pub long : length hops ≡ n
  pub each : (u : ℕ) → u < n → AreHopsFrom g u (lists_at hops u)

-- the distances and the next hops from each node, by number, and for each link the nodes towards which it is a next
-- hop
pub record Forest : Type 0 where
  pub rows : List (List ℕ)
  pub hops : List HopLists
  pub carried : List NodeBits

-- how many nodes there are
abbrev pub tree_count : Forest → ℕ
tree_count t = length t.rows

-- the cell of node v in the row of node u
abbrev pub cell_at : Forest → ℕ → ℕ → ℕ
cell_at t u v = slice_index (row_at t.rows u) v

-- the next hops from node u to node v
abbrev pub hops_at : Forest → ℕ → ℕ → List LinkNo
hops_at t u v = hops_to (lists_at t.hops u) v

-- each row has a cell for each row
abbrev pub IsSquare : List (List ℕ) → Type 0
IsSquare rows = (u : ℕ) → u < length rows → length (row_at rows u) ≡ length rows

-- there are no more rows than a graph may have nodes; each row has a cell for each node, and each node has a place
-- for each node
pub record IsWholeForest (t : Forest) : Type 0 where
  pub few : length t.rows ≤ MOST_NODES
  pub square : IsSquare t.rows
  pub long : length t.hops ≡ length t.rows
  pub places : (u : ℕ) → u < length t.rows → length (lists_at t.hops u).starts ≡ length t.rows + 1

-- the distances and next hops are those of the graph
pub record AreTrees (g : Graph) (t : Forest) : Type 0 where
  pub graph : IsGraph g
  pub long : tree_count t ≡ node_count g
  pub rows : (u : ℕ) → u < node_count g → IsRow g [] u (row_at t.rows u)
  pub hops : (u v : ℕ) → u < node_count g → v < node_count g → AreNextHops g u v (hops_at t u v)
  pub carried : AreCarried g t.carried (link_count g)

-- a cell as a distance, if there is one
abbrev pub distance_of : ℕ → Option ℕ
distance_of cell = if nat_lt cell FAR then Some cell else None
