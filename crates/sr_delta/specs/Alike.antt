-- What nodes announce alike in two nets.
use Rattle.std.specs.Prelude.{◌≡◌, ◌↔◌, ℕ, ◌<◌, ◌≤◌, true, false, is_some}
use Rattle.sr_model.specs.Graph.{tail}
use Rattle.sr_model.specs.Label.{Net, labels_at, adj_at}
use Rattle.sr_model.specs.Stay.{HaveSameName, HasSameDepth}
use Rattle.sr_laws.specs.Steady.{HasSameSegments}
use Rattle.sr_lanes.specs.declared.words.NodeBits.{NodeBits}
use Rattle.sr_lanes.specs.Bits.{is_in}
use Rattle.sr_delta.specs.Grouped.{HaveSameGroupsAt}
use Rattle.sr_delta.specs.Pairs.{HaveSamePairsAt}

-- node v has the same adjacency label on each of its links that is in both nets
abbrev pub HasSameAdj : Net → Net → ℕ → Type 0
HasSameAdj n m v =
    (l k : ℕ) → HaveSameName n.graph m.graph l k → tail n.graph l ≡ v → adj_at n l ≡ adj_at m k

-- node v has the same index and the same flags in both nets, and the same adjacency labels on its links in both
pub record HasSameLabels (n m : Net) (v : ℕ) : Type 0 where
  pub index : (labels_at n v).index ≡ (labels_at m v).index
  pub keep : (labels_at n v).keep ≡ (labels_at m v).keep
  pub explicit : (labels_at n v).explicit ≡ (labels_at m v).explicit
  pub adj : HasSameAdj n m v

-- node v has an index in both nets, or in neither
abbrev pub IsIndexedAlike : Net → Net → ℕ → Type 0
IsIndexedAlike n m v = is_some (labels_at n v).index ≡ is_some (labels_at m v).index

-- the set has just those nodes below this number for which the test holds
pub record IsSetOf (test : ℕ → Type 0) (count : ℕ) (set : NodeBits) : Type 0 where
  pub each : (v : ℕ) → v < count → (is_in set v ≡ true) ↔ test v
  pub above : (v : ℕ) → count ≤ v → is_in set v ≡ false

-- the nodes with the same labels, with the same segments, with an index in both nets or in neither, with the same
-- depth, with links of the same pairs, and nodes with the same links in the same risk groups
pub record Likeness : Type 0 where
  pub labels : NodeBits
  pub segments : NodeBits
  pub indexed : NodeBits
  pub depths : NodeBits
  pub pairs : NodeBits
  pub groups : NodeBits

-- these are told of the nodes below this number; the groups of all links need not be told
pub record AreAlike (n m : Net) (count : ℕ) (a : Likeness) : Type 0 where
  pub labels : IsSetOf (HasSameLabels n m) count a.labels
  pub segments : IsSetOf (HasSameSegments n m) count a.segments
  pub indexed : IsSetOf (IsIndexedAlike n m) count a.indexed
  pub depths : IsSetOf (HasSameDepth n m) count a.depths
  pub pairs : IsSetOf (HaveSamePairsAt n.graph m.graph) count a.pairs
  pub groups : (v : ℕ) → is_in a.groups v ≡ true → HaveSameGroupsAt n.graph m.graph v
