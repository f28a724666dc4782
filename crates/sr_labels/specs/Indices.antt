-- The indices that nodes announce, as a list in order, and what is sought in it.
use Rattle.std.specs.Prelude.{◌≡◌, ◌≢◌, ◌↔◌, ℕ, ◌-◌, ◌<◌, ◌≤◌, ◌⊎◌, true, List, length, Option, Some, None, is_some, slice_index_or, IsTrue}
use Rattle.sr_lanes.specs.Bits.{is_in}
use Rattle.sr_lanes.specs.declared.words.NodeBits.{NodeBits}
use Rattle.sr_model.specs.Label.{Labels, label_of, sizes}
use Rattle.sr_model.specs.Rule.{node_at}
use Rattle.sr_labels.specs.declared.indices.NodeIndex.{NodeIndex}

-- entry number k of the list
abbrev pub entry_at : List NodeIndex → ℕ → NodeIndex
entry_at list k = slice_index_or list k (record { index = 0; node = 0 })

-- the node announces the index
abbrev pub IsIndexEntry : List Labels → NodeIndex → Type 0
IsIndexEntry nodes entry = (entry.node < length nodes) × ((node_at nodes entry.node).index ≡ Some entry.index)

-- the list holds what the nodes announce, and nothing else
abbrev pub HoldsAll : List Labels → List NodeIndex → Type 0
HoldsAll nodes list =
    ((k : ℕ) → k < length list → IsIndexEntry nodes (entry_at list k))
    × ((entry : NodeIndex) → IsIndexEntry nodes entry → (k : ℕ) × (k < length list) × (entry_at list k ≡ entry))

-- the list holds all, in order of node
abbrev pub AreByNode : List Labels → List NodeIndex → Type 0
AreByNode nodes list =
    HoldsAll nodes list × ((j k : ℕ) → j < k → k < length list → (entry_at list j).node < (entry_at list k).node)

-- by index, then by node
abbrev pub EntryLt : NodeIndex → NodeIndex → Type 0
EntryLt a b = (a.index < b.index) ⊎ ((a.index ≡ b.index) × (a.node < b.node))

-- the list holds all, in order of index and then of node
abbrev pub AreByIndex : List Labels → List NodeIndex → Type 0
AreByIndex nodes list =
    HoldsAll nodes list × ((j k : ℕ) → j < k → k < length list → EntryLt (entry_at list j) (entry_at list k))

-- entry k and the one before have one index
abbrev pub IsTwin : List NodeIndex → ℕ → Type 0
IsTwin list k = (0 < k) × (k < length list) × ((entry_at list k).index ≡ (entry_at list (k - 1)).index)

-- no two neighbours have one index
abbrev pub NoTwins : List NodeIndex → Type 0
NoTwins list = (k : ℕ) → IsTwin list k → ⊥

-- k is the second place of the first two neighbours with one index
abbrev pub IsFirstTwin : List NodeIndex → ℕ → Type 0
IsFirstTwin list k = IsTwin list k × ((j : ℕ) → j < k → IsTwin list j → ⊥)

-- each node has at least this number of labels
abbrev pub AreAtLeast : List Labels → ℕ → Type 0
AreAtLeast nodes least = (v : ℕ) → v < length nodes → least ≤ sizes (node_at nodes v).srgb

-- the first node that has no label for the index, or none where each has one
abbrev pub IsFirstWithout : List Labels → ℕ → Option ℕ → Type 0
IsFirstWithout nodes i None = (v : ℕ) → v < length nodes → label_of (node_at nodes v).srgb i ≢ None
IsFirstWithout nodes i (Some v) =
    (v < length nodes) × (label_of (node_at nodes v).srgb i ≡ None)
    × ((w : ℕ) → w < v → label_of (node_at nodes w).srgb i ≢ None)

-- the set has just the nodes that announce an index
abbrev pub AreIndexed : List Labels → NodeBits → Type 0
AreIndexed nodes set = (v : ℕ) → IsTrue (is_in set v) ↔ (is_some (node_at nodes v).index ≡ true)
