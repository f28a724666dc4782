-- Indices of nodes whose label ranges may be no SRGB, and what is sought among them.
use Rattle.std.specs.Prelude.{◌≡◌, ℕ, ◌<◌, ◌≤◌, ◌-◌, ◌^◌, nat_lt, if◌then◌else◌, List, length, map, Option, Some, None}
use Rattle.sr_model.specs.Label.{Labels, sizes}
use Rattle.sr_model.specs.Rule.{node_at}
use Rattle.sr_labels.specs.Indices.{AreAtLeast}
use Rattle.sr_lsdb.specs.Announcement.{lesser}

-- the index that a node announces
abbrev pub index_in : Labels → Option ℕ
index_in labels = labels.index

-- the nodes announce the same indices
abbrev pub HaveSameIndices : List Labels → List Labels → Type 0
HaveSameIndices nodes others = map index_in nodes ≡ map index_in others

-- each node has at least this number of labels, and some node has no more, unless the number is the greatest of 64 bits
pub record IsLeastTotal (nodes : List Labels) (least : ℕ) : Type 0 where
  pub each : AreAtLeast nodes least
  pub reached : least < 2 ^ 64 - 1 → (v : ℕ) × (v < length nodes) × (sizes (node_at nodes v).srgb ≡ least)

-- what was found, or the lesser of it and this index, where there is one and it is at least so much
abbrev pub chosen : ℕ → Option ℕ → Option ℕ → Option ℕ
chosen least found None = found
chosen least found (Some index) = if nat_lt index least then found else lesser found index

-- of the indices of the first `count` nodes that are at least so much, the least, or none where each is less
abbrev pub IsLeastFrom : List Labels → ℕ → ℕ → Option ℕ → Type 0
IsLeastFrom nodes least count None = (v i : ℕ) → v < count → (node_at nodes v).index ≡ Some i → i < least
IsLeastFrom nodes least count (Some index) =
    ((v : ℕ) × (v < count) × ((node_at nodes v).index ≡ Some index))
    × (least ≤ index)
    × ((v i : ℕ) → v < count → (node_at nodes v).index ≡ Some i → least ≤ i → index ≤ i)
