-- The rules on the labels of all nodes together, the first that is broken, and what a net that breaks none gives.
use Rattle.std.specs.Prelude.{◌≡◌, ◌≢◌, ℕ, ◌<◌, ◌≤◌, ◌⊎◌, List, [], ◌∷◌, length, Option, Some, None, slice_index_or, slice_get}
use Rattle.sr_model.specs.declared.label.AdjLabel.{AdjLabel}
use Rattle.sr_model.specs.declared.label.LabelRule.{LabelRule}
use Rattle.sr_model.specs.declared.label.LabelRule.TheVariants.{DuplicateIndex, IndexOutside, AdjLabelClash}
use Rattle.sr_model.specs.declared.limits.TheConstants.{MOST_DEPTH}
use Rattle.sr_model.specs.declared.link.Link.{Link}
use Rattle.sr_model.specs.declared.name.LinkKey.{LinkKey}
use Rattle.sr_model.specs.Key.{KeyLt}
use Rattle.sr_model.specs.Graph.{Graph, node_count, link_count, link_at, tail, IsGraph, IsNamed, IsGrouped}
use Rattle.sr_model.specs.Label.{Labels, Net, nameless, labels_at, adj_at, label_of, IsSrgb}

-- what the node at place v announces
abbrev pub node_at : List Labels → ℕ → Labels
node_at nodes v = slice_index_or nodes v nameless

-- adjacency label number k of the list
abbrev pub adj_label_at : List AdjLabel → ℕ → AdjLabel
adj_label_at adj k = slice_index_or adj k (record { node = 0; label = 0 })

-- two nodes announce the index
pub record IsDuplicate (nodes : List Labels) (i low high : ℕ) : Type 0 where
  pub order : low < high
  pub within : high < length nodes
  pub low_has : (node_at nodes low).index ≡ Some i
  pub high_has : (node_at nodes high).index ≡ Some i

-- the least such index, with the two least nodes that announce it
pub record IsLeastDuplicate (nodes : List Labels) (i low high : ℕ) : Type 0 where
  pub duplicate : IsDuplicate nodes i low high
  pub least : (j a b : ℕ) → IsDuplicate nodes j a b → (i ≤ j) × (i ≡ j → low ≤ a) × (i ≡ j → low ≡ a → high ≤ b)

-- some node announces the index, and it lies outside the ranges of node v
pub record IsIndexOutside (nodes : List Labels) (i v : ℕ) : Type 0 where
  pub announced : (w : ℕ) × (w < length nodes) × ((node_at nodes w).index ≡ Some i)
  pub within : v < length nodes
  pub outside : label_of (node_at nodes v).srgb i ≡ None

-- the least such index, with the least such node
pub record IsLeastOutside (nodes : List Labels) (i v : ℕ) : Type 0 where
  pub outside : IsIndexOutside nodes i v
  pub least : (j w : ℕ) → IsIndexOutside nodes j w → (i ≤ j) × (i ≡ j → v ≤ w)

-- the adjacency label at place k is reserved, or in its node's ranges, or that of another link of the node
pub record IsClashAt (nodes : List Labels) (adj : List AdjLabel) (k : ℕ) : Type 0 where
  pub within : k < length adj
  pub clash :
      ((adj_label_at adj k).label < 16)
      ⊎ (((i : ℕ) × (label_of (node_at nodes (adj_label_at adj k).node).srgb i ≡ Some (adj_label_at adj k).label))
      ⊎ ((j : ℕ) × (j < length adj) × (j ≢ k) × ((adj_label_at adj j).node ≡ (adj_label_at adj k).node)
      × ((adj_label_at adj j).label ≡ (adj_label_at adj k).label)))

-- the lower node, then the lower label
abbrev pub IsNoLater : AdjLabel → AdjLabel → Type 0
IsNoLater a b = (a.node ≤ b.node) × (a.node ≡ b.node → a.label ≤ b.label)

-- the least node with the least such label
pub record IsLeastClash (nodes : List Labels) (adj : List AdjLabel) (a : AdjLabel) : Type 0 where
  pub clash : (k : ℕ) × IsClashAt nodes adj k × (adj_label_at adj k ≡ a)
  pub least : (k : ℕ) → IsClashAt nodes adj k → IsNoLater a (adj_label_at adj k)

-- no index is announced by two nodes
abbrev pub NoDuplicate : List Labels → Type 0
NoDuplicate nodes = (i low high : ℕ) → IsDuplicate nodes i low high → ⊥

-- each announced index lies within the ranges of each node
abbrev pub NoOutside : List Labels → Type 0
NoOutside nodes = (i v : ℕ) → IsIndexOutside nodes i v → ⊥

-- no adjacency label breaks its rule
abbrev pub NoAdjClash : List Labels → List AdjLabel → Type 0
NoAdjClash nodes adj = (k : ℕ) → IsClashAt nodes adj k → ⊥

-- of the three rules in this order, the first that is broken with the least that breaks it, or none where none is
-- broken (this project's rule)
abbrev pub IsFirstBroken : List Labels → List AdjLabel → Option LabelRule → Type 0
IsFirstBroken nodes adj None = NoDuplicate nodes × NoOutside nodes × NoAdjClash nodes adj
IsFirstBroken nodes adj (Some (DuplicateIndex i low high)) = IsLeastDuplicate nodes i low high
IsFirstBroken nodes adj (Some (IndexOutside i v)) = NoDuplicate nodes × IsLeastOutside nodes i v
IsFirstBroken nodes adj (Some (AdjLabelClash t v)) =
    NoDuplicate nodes × NoOutside nodes × IsLeastClash nodes adj (record { node = v; label = t })

-- the adjacency labels of the links, each with the node at which its link begins
abbrev pub adj_labels_of : List Link → List (Option ℕ) → List AdjLabel
adj_labels_of [] labels = []
adj_labels_of (k ∷ ks) [] = []
adj_labels_of (k ∷ ks) (None ∷ labels) = adj_labels_of ks labels
adj_labels_of (k ∷ ks) (Some t ∷ labels) = record { node = k.from.0; label = t } ∷ adj_labels_of ks labels

-- the announced keys ascend strictly, and the key of each link is among them
pub record AreAnnounced (g : Graph) (keys : List LinkKey) : Type 0 where
  pub ascending : (i j : ℕ) (a b : LinkKey) → i < j → slice_get keys i ≡ Some a → slice_get keys j ≡ Some b
      → KeyLt a b
  pub holds : (l : ℕ) → l < link_count g → (i : ℕ) × (slice_get keys i ≡ Some (link_at g l).key)

-- an accepted net: a graph within its limits and in order, with its groups; an SRGB for each node, and an entry for
-- each link; no rule on labels is broken; the announced keys ascend and hold each link's; and a depth that there may be
pub record IsAccepted (n : Net) : Type 0 where
  pub graph : IsGraph n.graph
  pub named : IsNamed n.graph
  pub grouped : IsGrouped n.graph
  pub nodes : length n.labels ≡ node_count n.graph
  pub links : length n.adj ≡ link_count n.graph
  pub ranges : (v : ℕ) → v < length n.labels → IsSrgb (labels_at n v).srgb
  pub rules : IsFirstBroken n.labels (adj_labels_of n.graph.links n.adj) None
  pub announced : AreAnnounced n.graph n.announced
  pub depth : n.depth ≤ MOST_DEPTH

-- what an accepted net gives: each index has a label at each node, an index is one node's, a label is one index's at
-- a node, no label is 0, and the adjacency labels of a node are apart from its ranges and from each other
pub record IsNet (n : Net) : Type 0 where
  pub graph : IsGraph n.graph
  pub named : IsNamed n.graph
  pub grouped : IsGrouped n.graph
  pub nodes : length n.labels ≡ node_count n.graph
  pub links : length n.adj ≡ link_count n.graph
  pub inside : (u v i : ℕ) → u < node_count n.graph → v < node_count n.graph → (labels_at n v).index ≡ Some i
      → (t : ℕ) × (label_of (labels_at n u).srgb i ≡ Some t)
  pub own_index : (u v i : ℕ) → u < node_count n.graph → v < node_count n.graph → (labels_at n u).index ≡ Some i
      → (labels_at n v).index ≡ Some i → u ≡ v
  pub own_label : (u i j t : ℕ) → label_of (labels_at n u).srgb i ≡ Some t → label_of (labels_at n u).srgb j ≡ Some t
      → i ≡ j
  pub high : (u i t : ℕ) → label_of (labels_at n u).srgb i ≡ Some t → 0 < t
  pub adj_high : (l t : ℕ) → adj_at n l ≡ Some t → 0 < t
  pub adj_apart : (l i t : ℕ) → adj_at n l ≡ Some t → label_of (labels_at n (tail n.graph l)).srgb i ≡ Some t → ⊥
  pub adj_one : (k l t : ℕ) → k < link_count n.graph → l < link_count n.graph → tail n.graph k ≡ tail n.graph l
      → adj_at n k ≡ Some t → adj_at n l ≡ Some t → k ≡ l
