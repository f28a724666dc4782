-- Nodes in order of index, and links in order of label.
use Rattle.std.specs.Prelude.{◌≡◌, ◌≢◌, ℕ, ◌<◌, List, length, slice_index_or}
use Rattle.sr_model.specs.declared.link.NodeNo.{NodeNo}
use Rattle.sr_model.specs.declared.link.LinkNo.{LinkNo}
use Rattle.sr_fib.specs.declared.sorted.IndexedNode.{IndexedNode}
use Rattle.sr_fib.specs.declared.sorted.LabelledLink.{LabelledLink}

-- entry number i of a list of nodes with their indices
abbrev pub node_entry : List IndexedNode → ℕ → IndexedNode
node_entry list i = slice_index_or list i (record { index = 0; node = record { 0 = 0 } })

-- entry number i of a list of links with their labels
abbrev pub link_entry : List LabelledLink → ℕ → LabelledLink
link_entry list i = slice_index_or list i (record { label = 0; link = record { 0 = 0 } })

-- each entry has a lower index than all later ones
abbrev pub AscendByIndex : List IndexedNode → Type 0
AscendByIndex list = (i j : ℕ) → i < j → j < length list → (node_entry list i).index < (node_entry list j).index

-- each entry has a lower label than all later ones
abbrev pub AscendByLabel : List LabelledLink → Type 0
AscendByLabel list = (i j : ℕ) → i < j → j < length list → (link_entry list i).label < (link_entry list j).label

-- no two entries have one index
abbrev pub HaveOwnIndices : List IndexedNode → Type 0
HaveOwnIndices list = (i j : ℕ) → i < j → j < length list → (node_entry list i).index ≢ (node_entry list j).index

-- no two entries have one label
abbrev pub HaveOwnLabels : List LabelledLink → Type 0
HaveOwnLabels list = (i j : ℕ) → i < j → j < length list → (link_entry list i).label ≢ (link_entry list j).label

-- the node stands in the list with the index
abbrev pub HasNode : List IndexedNode → ℕ → NodeNo → Type 0
HasNode list index node =
    (i : ℕ) × (i < length list) × ((node_entry list i).index ≡ index) × ((node_entry list i).node ≡ node)

-- the index is no node's in the list
abbrev pub NoNode : List IndexedNode → ℕ → Type 0
NoNode list index = (i : ℕ) → i < length list → (node_entry list i).index ≢ index

-- the link stands in the list with the label
abbrev pub HasLinkUnder : List LabelledLink → ℕ → LinkNo → Type 0
HasLinkUnder list label link =
    (i : ℕ) × (i < length list) × ((link_entry list i).label ≡ label) × ((link_entry list i).link ≡ link)

-- the label is no link's in the list
abbrev pub NoLink : List LabelledLink → ℕ → Type 0
NoLink list label = (i : ℕ) → i < length list → (link_entry list i).label ≢ label
