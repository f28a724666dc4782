-- The nodes and links of a net by which its label tables are told, and the net whose tables they are.
use Rattle.std.specs.Prelude.{◌≡◌, ℕ, ◌<◌, List, [], length, Some, slice_index_or}
use Rattle.sr_model.specs.Graph.{node_count, link_count, tail}
use Rattle.sr_model.specs.Label.{Net, labels_at, adj_at}
use Rattle.sr_model.specs.Rule.{IsNet}
use Rattle.sr_spf.specs.Trees.{Forest, AreTrees}
use Rattle.sr_fib.specs.declared.sorted.IndexedNode.{IndexedNode}
use Rattle.sr_fib.specs.declared.sorted.LabelledLink.{LabelledLink}
use Rattle.sr_fib.specs.Sorted.{node_entry, link_entry}

-- the nodes that have an index, and for each node its links that have an adjacency label
pub record SidLists : Type 0 where
  pub indices : List IndexedNode
  pub links : List (List LabelledLink)

-- the links of node u that have an adjacency label
abbrev pub links_by_label_at : List (List LabelledLink) → ℕ → List LabelledLink
links_by_label_at links u = slice_index_or links u []

-- the list has each node that has an index, with it
pub record AreIndices (n : Net) (list : List IndexedNode) : Type 0 where
  pub each : (i : ℕ) → i < length list → ((node_entry list i).node.0 < node_count n.graph)
      × ((labels_at n (node_entry list i).node.0).index ≡ Some (node_entry list i).index)
  pub all : (v index : ℕ) → v < node_count n.graph → (labels_at n v).index ≡ Some index
      → (i : ℕ) × (i < length list) × ((node_entry list i).node.0 ≡ v)

-- the list has each link of node u that has an adjacency label, with it
pub record AreAdjacencies (n : Net) (u : ℕ) (list : List LabelledLink) : Type 0 where
  pub each : (i : ℕ) → i < length list → ((link_entry list i).link.0 < link_count n.graph)
      × (tail n.graph (link_entry list i).link.0 ≡ u)
      × (adj_at n (link_entry list i).link.0 ≡ Some (link_entry list i).label)
  pub all : (l label : ℕ) → l < link_count n.graph → tail n.graph l ≡ u → adj_at n l ≡ Some label
      → (i : ℕ) × (i < length list) × ((link_entry list i).link.0 ≡ l)

-- the lists are those of the nodes below m
pub record AreLinkLists (n : Net) (links : List (List LabelledLink)) (m : ℕ) : Type 0 where
  pub long : length links ≡ m
  pub each : (u : ℕ) → u < m → AreAdjacencies n u (links_by_label_at links u)

-- the nodes and links are those of the net
pub record AreSids (n : Net) (s : SidLists) : Type 0 where
  pub indices : AreIndices n s.indices
  pub links : AreLinkLists n s.links (node_count n.graph)

-- what the label tables of a net are told from: its trees, and its nodes and links
pub record AreTables (n : Net) (t : Forest) (s : SidLists) : Type 0 where
  pub net : IsNet n
  pub trees : AreTrees n.graph t
  pub sids : AreSids n s

-- the tables, which stand for their net, are those of net n
abbrev pub IsFib : Net → Net → Type 0
IsFib n f = f ≡ n
