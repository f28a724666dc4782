-- What the search keeps.
use Rattle.std.specs.Prelude.{count_by, is_some, not, false, ◌++◌, ◌≡◌, ℕ, ◌+◌, ◌-◌, ◌<◌, ◌⊎◌, nat_lt, if◌then◌else◌, true, List, [], ◌∷◌, length, Option, None, slice_index, slice_index_or}
use Rattle.sr_model.specs.declared.repair.Segment.{Segment}
use Rattle.sr_model.specs.declared.repair.Segment.TheVariants.{Node, Adj}
use Rattle.sr_model.specs.declared.link.NodeNo.{NodeNo}
use Rattle.sr_model.specs.Graph.{Graph, node_count, link_count, tail, is_overloaded}
use Rattle.sr_model.specs.Repair.{Path, PathLt, PathLe}
use Rattle.sr_laws.specs.Exact.{push, Routes, IsExact, Knows}
use Rattle.sr_lanes.specs.declared.words.NodeBits.{NodeBits}
use Rattle.sr_lanes.specs.Bits.{is_in, IsWithout}
use Rattle.sr_encode.specs.declared.waypoint.Waypoint.{Waypoint}
use Rattle.sr_encode.specs.declared.met.Met.{Met}
use Rattle.sr_encode.specs.Aftermath.{Aftermath}
use Rattle.sr_encode.specs.Waypoints.{waypoint_at, waypoint_node, path_to, met_from, AreParents}

-- the segments by number: the nodes first, then the links
abbrev pub segment_numbered : Graph → ℕ → Segment
segment_numbered g k =
    if nat_lt k (node_count g) then Node (record { 0 = k }) else Adj (record { 0 = k - node_count g })

-- how many segments there are
abbrev pub key_count : Graph → ℕ
key_count g = node_count g + link_count g

-- the segment leads from w to v, and keeps to the distances from the source
pub record StepsTo (after : Aftermath) (w : ℕ) (t : Segment) (v : ℕ) : Type 0 where
  pub cost : ℕ
  pub leads : Routes after.net after.failed w (t ∷ []) v cost
  pub fits : slice_index after.post w + cost ≡ slice_index after.post v

-- the adjacency segment of link l leads nowhere from its beginning, if it keeps to those distances
abbrev pub StepsNowhere : Aftermath → ℕ → Type 0
StepsNowhere after l = (v : ℕ) → StepsTo after (tail after.net.graph l) (Adj (record { 0 = l })) v → ⊥

-- link l alone is a list from the source to v, and keeps to those distances
abbrev pub BeginsAt : Aftermath → ℕ → ℕ → Type 0
BeginsAt after l v = IsExact after.net after.failed after.source v (record { first = l; segments = [] })

-- link l alone is no list that keeps to them
abbrev pub BeginsNowhere : Aftermath → ℕ → Type 0
BeginsNowhere after l = (v : ℕ) → BeginsAt after l v → ⊥

-- segment number key of the waypoint at place k was looked at, before place i and number cur
abbrev pub WasLookedAt : Graph → ℕ → ℕ → ℕ → ℕ → Type 0
WasLookedAt g k key i cur = ((k < i) × (key < key_count g)) ⊎ ((k ≡ i) × (key < cur))

-- the search stands at segment number cur of the waypoint at place i: known lists are exact, ascend in the order in
-- which their nodes were met, and are no greater than first links alone and than known lists with a segment more that
-- was looked at
pub record IsSearch (after : Aftermath) (known : List (Option Path)) (order : List ℕ) (i cur : ℕ) : Type 0 where
  pub long : length known ≡ node_count after.net.graph
  pub sized : length order ≡ count_by is_some known
  pub exact : (w : ℕ) (a : Path) → Knows known w a
      → (w < node_count after.net.graph) × IsExact after.net after.failed after.source w a
  pub starts : (w first : ℕ) → IsExact after.net after.failed after.source w (record { first = first; segments = [] })
      → (a : Path) × Knows known w a × PathLe a (record { first = first; segments = [] })
  pub listed : (w : ℕ) (a : Path) → Knows known w a → (k : ℕ) × (k < length order) × (slice_index order k ≡ w)
  pub found : (k : ℕ) → k < length order
      → (slice_index order k < node_count after.net.graph) × ((a : Path) × Knows known (slice_index order k) a)
  pub ascending : (j k : ℕ) (a b : Path) → j < k → k < length order → Knows known (slice_index order j) a
      → Knows known (slice_index order k) b → PathLt a b
  pub closed : (k key v : ℕ) (a : Path) → k < length order → WasLookedAt after.net.graph k key i cur
      → Knows known (slice_index order k) a
      → StepsTo after (slice_index order k) (segment_numbered after.net.graph key) v
      → (b : Path) × Knows known v b × PathLe b (push a (segment_numbered after.net.graph key))
  pub low : (a : Path) (w : ℕ) (b : Path) → i < length order → Knows known (slice_index order i) a → Knows known w b
      → ((t : Segment)
      → PathLt b (push a t)) ⊎ ((key : ℕ) × (key < cur) × (b ≡ push a (segment_numbered after.net.graph key)))

-- the search has looked at the first links below l
pub record IsStart (after : Aftermath) (known : List (Option Path)) (order : List ℕ) (l : ℕ) : Type 0 where
  pub long : length known ≡ node_count after.net.graph
  pub sized : length order ≡ count_by is_some known
  pub exact : (w : ℕ) (a : Path) → Knows known w a
      → (w < node_count after.net.graph) × IsExact after.net after.failed after.source w a
  pub listed : (w : ℕ) (a : Path) → Knows known w a → (k : ℕ) × (k < length order) × (slice_index order k ≡ w)
  pub found : (k : ℕ) → k < length order
      → (slice_index order k < node_count after.net.graph) × ((a : Path) × Knows known (slice_index order k) a)
  pub ascending : (j k : ℕ) (a b : Path) → j < k → k < length order → Knows known (slice_index order j) a
      → Knows known (slice_index order k) b → PathLt a b
  pub starts : (w first : ℕ) → first < l
      → IsExact after.net after.failed after.source w (record { first = first; segments = [] })
      → (a : Path) × Knows known w a × PathLe a (record { first = first; segments = [] })
  pub plain : (w : ℕ) (a : Path) → Knows known w a → (a.segments ≡ []) × (a.first < l)

-- the queue has the nodes in the order in which they were met, each with the list known to it, and the set has those
-- that weren't met
pub record Agrees (known : List (Option Path)) (order : List ℕ)
    (queue : List Waypoint) (unmet : NodeBits) : Type 0 where
  pub long : length queue ≡ length order
  pub nodes : (k : ℕ) → k < length order → waypoint_node queue k ≡ slice_index order k
  pub paths : (k : ℕ) → k < length order → Knows known (slice_index order k) (path_to queue k)
  pub parents : AreParents queue
  pub inside : (w : ℕ) → is_in unmet w ≡ true → w < length known
  pub unmarked : (w : ℕ) → w < length known → is_in unmet w ≡ not (is_some (slice_index_or known w None))

-- the queue and the set of the nodes that weren't met are those of a search that stands at segment number cur of the
-- waypoint at place i
pub record IsSearching (after : Aftermath) (queue : List Waypoint) (unmet : NodeBits) (i cur : ℕ) : Type 0 where
  pub known : List (Option Path)
  pub order : List ℕ
  pub search : IsSearch after known order i cur
  pub agrees : Agrees known order queue unmet

-- such a search stands at a waypoint that isn't overloaded, so that segments lead on from it
pub record LooksFrom (after : Aftermath) (met : Met) (i cur : ℕ) : Type 0 where
  pub search : IsSearching after met.queue.items met.unmet i cur
  pub place : i < length met.queue.items
  pub clear : is_overloaded after.net.graph (waypoint_node met.queue.items i) ≡ false

-- the numbers of a waypoint that is met from the one at place i are in range
pub record HasRoom (queue : List Waypoint) (i : ℕ) : Type 0 where
  pub place : i < length queue
  pub parent : i < 65536
  pub depth : (waypoint_at queue i).depth + 1 < 65536

-- node v is met by this segment from the waypoint at place i
pub record IsMet (before met : Met) (i : ℕ) (v : NodeNo) (t : Segment) : Type 0 where
  pub queue : met.queue.items ≡ before.queue.items ++ met_from before.queue.items i v t ∷ []
  pub unmet : IsWithout before.unmet met.unmet v.0

-- the queue and that set are those of a search that has looked at the first links below l
pub record IsStarting (after : Aftermath) (queue : List Waypoint) (unmet : NodeBits) (l : ℕ) : Type 0 where
  pub known : List (Option Path)
  pub order : List ℕ
  pub start : IsStart after known order l
  pub agrees : Agrees known order queue unmet
