-- A certificate gone through segment by segment.
use Rattle.std.specs.Prelude.{◌≡◌, ◌≢◌, ℕ, ◌+◌, ◌<◌, ◌≤◌, Bool, true, false, List, [], ◌∷◌, length, is_some, slice_index, slice_index_or}
use Rattle.std.specs.List.{AllZip}
use Rattle.sr_model.specs.declared.link.NodeNo.{NodeNo}
use Rattle.sr_model.specs.declared.repair.Segment.{Segment}
use Rattle.sr_model.specs.declared.repair.Segment.TheVariants.{Node, Adj}
use Rattle.sr_model.specs.Graph.{Graph, node_count, tail, metric, has}
use Rattle.sr_model.specs.Walk.{IsDistance, IsRow}
use Rattle.sr_model.specs.Space.{InP}
use Rattle.sr_model.specs.Label.{Net, labels_at, adj_at}
use Rattle.sr_repair.specs.Stack.{segment_at}
use Rattle.sr_cert.specs.Rows.{IsRowTo, HoldsDistances, headings}
use Rattle.sr_cert.specs.declared.certificate.Certificate.{Certificate}
use Rattle.sr_cert.specs.Clauses.{HasRows, GoesOnExact, StaysInSpaces, Costs, begin_of}
use Rattle.sr_cert.specs.Verdict.{IsSegmentWithin}

-- the node or link of each segment is one of the net
abbrev pub AreSegmentsWithin : Net → List Segment → Type 0
AreSegmentsWithin n segments = (k : ℕ) → k < length segments → IsSegmentWithin n (segment_at segments k)

-- how many rows a segment asks for
abbrev pub rows_of : Segment → ℕ
rows_of (Node v) = 2
rows_of (Adj l) = 0

-- how many rows the segments and the way on ask for
abbrev pub rows_asked : List Segment → ℕ
rows_asked [] = 2
rows_asked (segment ∷ rest) = rows_of segment + rows_asked rest

-- row number k
abbrev pub row_numbered : List (List ℕ) → ℕ → List ℕ
row_numbered rows k = slice_index_or rows k []

-- each row has a cell for each node
abbrev pub HaveCells : Graph → List (List ℕ) → Type 0
HaveCells g rows = (k : ℕ) → k < length rows → length (row_numbered rows k) ≡ node_count g

-- the segment may be used at waypoint u, but for spaces
abbrev pub IsUsable : Net → List Bool → ℕ → Segment → Type 0
IsUsable n x u (Node v) = (is_some (labels_at n v.0).index ≡ true) × (v.0 ≢ u)
IsUsable n x u (Adj l) = (tail n.graph l.0 ≡ u) × (has x l.0 ≡ false) × (is_some (adj_at n l.0) ≡ true)

-- the waypoint, and the segment's node or link, are of the net, and the rows that the segment asks for stand from place
-- on
pub record HasPlace (n : Net) (rows : List (List ℕ)) (place u : ℕ) (segment : Segment) : Type 0 where
  pub at : u < node_count n.graph
  pub within : IsSegmentWithin n segment
  pub inside : place + rows_of segment ≤ length rows

-- the rows are exact that segments from waypoint u on and the way on to d ask for
abbrev pub AreExact : Graph → ℕ → List Segment → ℕ → List (List ℕ) → Type 0
AreExact g u segments d rows = AllZip (HoldsDistances g) (headings g u segments d) rows

-- the rows from place on are exact that a segment asks for at waypoint u
abbrev pub HasExact : Graph → List (List ℕ) → ℕ → ℕ → Segment → Type 0
HasExact g rows place u (Node v) =
    IsRow g [] u (row_numbered rows place) × IsRowTo g [] v.0 (row_numbered rows (place + 1))
HasExact g rows place u (Adj l) = Unit {0}

-- the node of a node segment is in P of waypoint u
abbrev pub StaysOver : Graph → List Bool → ℕ → Segment → Type 0
StaysOver g x u (Node v) = InP g x u v.0
StaysOver g x u (Adj l) = Unit {0}

-- the segment costs c from waypoint u on
abbrev pub IsCostOver : Graph → ℕ → Segment → ℕ → Type 0
IsCostOver g u (Node v) c = IsDistance g [] u v.0 c
IsCostOver g u (Adj l) c = c ≡ metric g l.0

-- the rows of distances from node u and to node v
pub record AreWays (g : Graph) (u v : ℕ) (first second : List ℕ) : Type 0 where
  pub begins : u < node_count g
  pub ends : v < node_count g
  pub from : IsRow g [] u first
  pub to : IsRowTo g [] v second

-- the rows behind the first are those that the segments ask for, and the segments keep to the spaces of their waypoints
pub record KeepsToWays (n : Net) (x : List Bool) (c : Certificate) : Type 0 where
  pub rows : HasRows n c
  pub exact : GoesOnExact n c c.rows
  pub stays : StaysInSpaces n x (begin_of n c) c.segments c.dest.0

-- the first link, the segments and the way on cost so much in all
abbrev pub CostInAll : Net → Certificate → ℕ → Type 0
CostInAll n c whole =
    (b : ℕ) × Costs n (begin_of n c) c.segments c.dest.0 b × (metric n.graph c.first.0 + b ≡ whole)

-- the cell of the destination in the first row
abbrev pub whole_cell : Certificate → ℕ
whole_cell c = slice_index (row_numbered c.rows 0) c.dest.0

-- the node segment of d, the last to become active
abbrev pub last_segment : NodeNo → Segment
last_segment d = Node d
