-- Adjacency labels in order, and what each breaks.
use Rattle.std.specs.Prelude.{◌≡◌, ℕ, ◌+◌, ◌<◌, ◌≤◌, ◌⊎◌, List, length, Some}
use Rattle.sr_model.specs.declared.label.AdjLabel.{AdjLabel}
use Rattle.sr_model.specs.Label.{Labels, label_of}
use Rattle.sr_model.specs.Rule.{node_at, adj_label_at, IsNoLater}

-- in order of node and then of label
abbrev pub AreInOrder : List AdjLabel → Type 0
AreInOrder list = (j k : ℕ) → j ≤ k → k < length list → IsNoLater (adj_label_at list j) (adj_label_at list k)

-- the label is reserved, or in the ranges of its node
abbrev pub IsTakenLabel : List Labels → AdjLabel → Type 0
IsTakenLabel nodes this =
    (this.label < 16) ⊎ ((i : ℕ) × (label_of (node_at nodes this.node).srgb i ≡ Some this.label))

-- the label at the next place is the same, and of the same node
abbrev pub IsRepeated : List AdjLabel → ℕ → Type 0
IsRepeated list k =
    (k + 1 < length list) × ((adj_label_at list (k + 1)).node ≡ (adj_label_at list k).node)
    × ((adj_label_at list (k + 1)).label ≡ (adj_label_at list k).label)
