-- What a certificate has to meet, clause by clause.
use Rattle.std.specs.Prelude.{◌≡◌, ◌≢◌, ℕ, ◌+◌, Bool, true, false, List, [], ◌∷◌, length, is_some, reverse}
use Rattle.std.specs.List.{All, AllZip}
use Rattle.sr_model.specs.declared.repair.Segment.{Segment}
use Rattle.sr_model.specs.declared.repair.Segment.TheVariants.{Node, Adj}
use Rattle.sr_model.specs.Graph.{node_count, tail, head, metric, has}
use Rattle.sr_model.specs.Walk.{IsDistance, IsRow}
use Rattle.sr_model.specs.Space.{InP}
use Rattle.sr_model.specs.Case.{source_of}
use Rattle.sr_model.specs.Label.{Net, labels_at, adj_at}
use Rattle.sr_model.specs.Repair.{Clear}
use Rattle.sr_model.specs.Forward.{IsStack}
use Rattle.sr_cert.specs.declared.certificate.Certificate.{Certificate}
use Rattle.sr_cert.specs.declared.clause.Clause.{Clause}
use Rattle.sr_cert.specs.declared.clause.Clause.TheVariants as clause
use Rattle.sr_cert.specs.Rows.{HoldsDistances, headings}

-- the first waypoint: the end of the first link
abbrev pub begin_of : Net → Certificate → ℕ
begin_of n c = head n.graph c.first.0

-- there is the row of the source without the failed links, then those that the segments ask for, and each has a cell
-- for each node
pub record HasRows (n : Net) (c : Certificate) : Type 0 where
  pub count : length c.rows ≡ length (headings n.graph (begin_of n c) c.segments c.dest.0) + 1
  pub each : All (λ row. length row ≡ node_count n.graph) c.rows

-- from waypoint u on each segment may be used, but for spaces: a node segment needs an index and another node than
-- the waypoint; an adjacency segment needs a link that begins at the waypoint, hasn't failed and has an adjacency label
abbrev pub AreUsable : Net → List Bool → ℕ → List Segment → Type 0
AreUsable n x u [] = Unit {0}
AreUsable n x u (Node v ∷ rest) = (is_some (labels_at n v.0).index ≡ true) × (v.0 ≢ u) × AreUsable n x v.0 rest
AreUsable n x u (Adj l ∷ rest) =
    (tail n.graph l.0 ≡ u) × (has x l.0 ≡ false) × (is_some (adj_at n l.0) ≡ true)
    × AreUsable n x (head n.graph l.0) rest

-- the first link begins at the source and hasn't failed; the destination has an index and isn't the source; the
-- segments may be used, and no waypoint but the destination is overloaded
pub record IsWellFormed (n : Net) (x : List Bool) (c : Certificate) : Type 0 where
  pub begins : tail n.graph c.first.0 ≡ source_of n.graph c.case
  pub outside : has x c.first.0 ≡ false
  pub index : is_some (labels_at n c.dest.0).index ≡ true
  pub other : c.dest.0 ≢ source_of n.graph c.case
  pub usable : AreUsable n x (begin_of n c) c.segments
  pub clear : Clear n c.dest.0 (begin_of n c) c.segments

-- the first of the rows holds the distances from s without the failed links
abbrev pub BeginsExact : Net → List Bool → ℕ → List (List ℕ) → Type 0
BeginsExact n x s [] = ⊥
BeginsExact n x s (row ∷ rows) = IsRow n.graph x s row

-- the rows behind the first hold the distances that the segments ask for
abbrev pub GoesOnExact : Net → Certificate → List (List ℕ) → Type 0
GoesOnExact n c [] = ⊥
GoesOnExact n c (row ∷ rows) =
    AllZip (HoldsDistances n.graph) (headings n.graph (begin_of n c) c.segments c.dest.0) rows

-- from waypoint u on the node of each node segment is in P of its waypoint, and d in P of the last waypoint
abbrev pub StaysInSpaces : Net → List Bool → ℕ → List Segment → ℕ → Type 0
StaysInSpaces n x u [] d = InP n.graph x u d
StaysInSpaces n x u (Node v ∷ rest) d = InP n.graph x u v.0 × StaysInSpaces n x v.0 rest d
StaysInSpaces n x u (Adj l ∷ rest) d = StaysInSpaces n x (head n.graph l.0) rest d

-- from waypoint u by the segments and on to d costs c: a node segment its distance, an adjacency segment its metric
abbrev pub Costs : Net → ℕ → List Segment → ℕ → ℕ → Type 0
Costs n u [] d c = IsDistance n.graph [] u d c
Costs n u (Node v ∷ rest) d c =
    (a : ℕ) × (b : ℕ) × IsDistance n.graph [] u v.0 a × Costs n v.0 rest d b × (c ≡ a + b)
Costs n u (Adj l ∷ rest) d c = (b : ℕ) × Costs n (head n.graph l.0) rest d b × (c ≡ metric n.graph l.0 + b)

-- the first link, the segments and the way on add up to the distance without the failed links
abbrev pub CostsAddUp : Net → List Bool → Certificate → Type 0
CostsAddUp n x c =
    (b : ℕ) × Costs n (begin_of n c) c.segments c.dest.0 b
    × IsDistance n.graph x (source_of n.graph c.case) c.dest.0 (metric n.graph c.first.0 + b)

-- the certificate meets the clause, the links x having failed (this project's rule)
abbrev pub Meets : Net → List Bool → Certificate → Clause → Type 0
Meets n x c clause.Rows = HasRows n c
Meets n x c clause.Form = IsWellFormed n x c
Meets n x c clause.FirstRow = BeginsExact n x (source_of n.graph c.case) c.rows
Meets n x c clause.OtherRows = GoesOnExact n c c.rows
Meets n x c clause.Spaces = StaysInSpaces n x (begin_of n c) c.segments c.dest.0
Meets n x c clause.Sum = CostsAddUp n x c
Meets n x c clause.Labels = IsStack n c.dest.0 c.first.0 c.segments (reverse c.labels)

-- the number of a clause in the order in which they are tested
abbrev pub clause_number : Clause → ℕ
clause_number clause.Rows = 1
clause_number clause.Form = 2
clause_number clause.FirstRow = 3
clause_number clause.OtherRows = 4
clause_number clause.Spaces = 5
clause_number clause.Sum = 6
clause_number clause.Labels = 7
