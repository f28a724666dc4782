-- Sound lists, their order, and the answer of a case for a destination.
use Rattle.std.specs.Prelude.{◌⊎◌, ◌≡◌, ◌≢◌, ℕ, ◌+◌, ◌<◌, ◌≤◌, Bool, true, false, List, [], ◌∷◌, length, Option, Some, None, is_some}
use Rattle.sr_model.specs.declared.case.Case.{Case}
use Rattle.sr_model.specs.declared.repair.Segment.{Segment}
use Rattle.sr_model.specs.declared.repair.Segment.TheVariants.{Node, Adj}
use Rattle.sr_model.specs.declared.repair.RepairList.{RepairList}
use Rattle.sr_model.specs.declared.repair.Answer.{Answer}
use Rattle.sr_model.specs.declared.repair.Answer.TheVariants.{Least, NoPath, NoList, TooDeep}
use Rattle.sr_model.specs.Graph.{link_count, node_count, tail, head, metric, has, carries}
use Rattle.sr_model.specs.Walk.{IsWalk, IsDistance, NoWalk}
use Rattle.sr_model.specs.Space.{InP, InQ}
use Rattle.sr_model.specs.Case.{IsFailedSet, source_of}
use Rattle.sr_model.specs.Label.{Net, labels_at, adj_at}

-- the segments lead from waypoint u to waypoint w at this cost: a node segment needs an index, another node than the
-- waypoint, and that node in the waypoint's P, and costs the distance; an adjacency segment needs a link that begins
-- at the waypoint, hasn't failed and has an adjacency label, and costs its metric
abbrev pub Leads : Net → List Bool → ℕ → List Segment → ℕ → ℕ → Type 0
Leads n x u [] w c = (u ≡ w) × (c ≡ 0)
Leads n x u (Node v ∷ rest) w c =
    (d : ℕ) × (e : ℕ) × (is_some (labels_at n v.0).index ≡ true) × (v.0 < node_count n.graph) × (v.0 ≢ u)
    × InP n.graph x u v.0 × IsDistance n.graph [] u v.0 d × Leads n x v.0 rest w e × (c ≡ d + e)
Leads n x u (Adj l ∷ rest) w c =
    (e : ℕ) × (l.0 < link_count n.graph) × (tail n.graph l.0 ≡ u) × (has x l.0 ≡ false)
    × (is_some (adj_at n l.0) ≡ true) × Leads n x (head n.graph l.0) rest w e × (c ≡ metric n.graph l.0 + e)

-- no waypoint, u and those that the segments lead to, is overloaded, unless it is d
abbrev pub Clear : Net → ℕ → ℕ → List Segment → Type 0
Clear n d u [] = carries n.graph d u ≡ true
Clear n d u (Node v ∷ rest) = (carries n.graph d u ≡ true) × Clear n d v.0 rest
Clear n d u (Adj l ∷ rest) = (carries n.graph d u ≡ true) × Clear n d (head n.graph l.0) rest

-- a repair path: its first link, and the segments from the end of that link on
pub record Path : Type 0 where
  pub first : ℕ
  pub segments : List Segment

-- a sound list from s to d: its first link begins at s and hasn't failed, the segments lead on to a last waypoint, no
-- waypoint but d is overloaded, the last one is in Q of d, and all costs add up to the distance without the failed
-- links (this project's rule)
pub record IsSound (n : Net) (x : List Bool) (s d : ℕ) (a : Path) : Type 0 where
  pub within : a.first < link_count n.graph
  pub begins : tail n.graph a.first ≡ s
  pub outside : has x a.first ≡ false
  pub last : ℕ
  pub middle : ℕ
  pub rest : ℕ
  pub leads : Leads n x (head n.graph a.first) a.segments last middle
  pub clear : Clear n d (head n.graph a.first) a.segments
  pub ends : InQ n.graph x d last
  pub goes_on : IsDistance n.graph [] last d rest
  pub fits : IsDistance n.graph x s d (metric n.graph a.first + middle + rest)

-- node segments come before adjacency segments, each by number
abbrev pub SegmentLt : Segment → Segment → Type 0
SegmentLt (Node u) (Node v) = u.0 < v.0
SegmentLt (Node u) (Adj l) = Unit {0}
SegmentLt (Adj l) (Node u) = ⊥
SegmentLt (Adj l) (Adj m) = l.0 < m.0

-- at the first place where they differ, the first list's segment comes before
abbrev pub SegmentsLt : List Segment → List Segment → Type 0
SegmentsLt [] bs = ⊥
SegmentsLt (a ∷ ps) [] = ⊥
SegmentsLt (a ∷ ps) (b ∷ bs) = SegmentLt a b ⊎ ((a ≡ b) × SegmentsLt ps bs)

-- the order of lists: fewer segments, then the lower first link, then the segments from the front (this project's
-- rule)
abbrev pub PathLt : Path → Path → Type 0
PathLt a b =
    (length a.segments < length b.segments)
    ⊎ ((length a.segments ≡ length b.segments)
    × ((a.first < b.first) ⊎ ((a.first ≡ b.first) × SegmentsLt a.segments b.segments)))

-- before, or the same list
abbrev pub PathLe : Path → Path → Type 0
PathLe a b = PathLt a b ⊎ (a ≡ b)

-- sound, and no later than any sound list
pub record IsLeast (n : Net) (x : List Bool) (s d : ℕ) (a : Path) : Type 0 where
  pub sound : IsSound n x s d a
  pub least : (b : Path) → IsSound n x s d b → PathLe a b

-- where the node announces a maximum SID depth (MSD, RFC 8491, 5), k segments and the label below them fit in it;
-- else k segments fit in the depth of the net (this project's rule)
abbrev pub FitsDepth : Option ℕ → ℕ → ℕ → Type 0
FitsDepth None depth k = k ≤ depth
FitsDepth (Some m) depth k = k + 1 ≤ m

-- a list of k segments is let through at node s
abbrev pub Fits : Net → ℕ → ℕ → Type 0
Fits n s k = FitsDepth (labels_at n s).imposes n.depth k

-- the path of a repair
abbrev pub path_of : RepairList → Path
path_of list = record { first = list.first.0; segments = list.segments }

-- the answer from s to d without the failed links: no path where no walk is left; no list where one is left and no
-- list is sound; too deep where the least list doesn't fit, with the number of its segments; else the least list with
-- the distance as its cost (this project's rule)
abbrev pub IsAnswer : Net → List Bool → ℕ → ℕ → Answer → Type 0
IsAnswer n x s d NoPath = NoWalk n.graph x s d
IsAnswer n x s d NoList = ((p : List ℕ) × IsWalk n.graph x s p d) × ((a : Path) → IsSound n x s d a → ⊥)
IsAnswer n x s d (TooDeep k) = (a : Path) × IsLeast n x s d a × (length a.segments ≡ k) × (Fits n s k → ⊥)
IsAnswer n x s d (Least list) =
    IsLeast n x s d (path_of list) × Fits n s (length list.segments) × IsDistance n.graph x s d list.cost

-- the answer of a case for d
pub record IsCaseAnswer (n : Net) (case : Case) (d : ℕ) (answer : Answer) : Type 0 where
  pub failed : List Bool
  pub set : IsFailedSet n.graph case failed
  pub answers : IsAnswer n failed (source_of n.graph case) d answer
