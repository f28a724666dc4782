-- The lists by which a search goes: those that lead to a waypoint at its distance.
use Rattle.std.specs.Prelude.{◌≡◌, ◌≢◌, ℕ, ◌+◌, ◌<◌, Bool, true, false, List, [], ◌∷◌, ◌++◌, Option, Some, None, is_some, slice_index_or}
use Rattle.sr_model.specs.declared.repair.Segment.{Segment}
use Rattle.sr_model.specs.declared.repair.Segment.TheVariants.{Node, Adj}
use Rattle.sr_model.specs.Graph.{link_count, node_count, tail, head, metric, has, is_overloaded}
use Rattle.sr_model.specs.Walk.{IsDistance}
use Rattle.sr_model.specs.Space.{InP}
use Rattle.sr_model.specs.Label.{Net, labels_at, adj_at}
use Rattle.sr_model.specs.Repair.{Path}

-- the list with one segment more
abbrev pub push : Path → Segment → Path
push a s = record { first = a.first; segments = a.segments ++ s ∷ [] }

-- the segments lead from waypoint u to waypoint w, and no waypoint at which one of them begins is overloaded
abbrev pub Routes : Net → List Bool → ℕ → List Segment → ℕ → ℕ → Type 0
Routes n x u [] w c = (u ≡ w) × (c ≡ 0)
Routes n x u (Node v ∷ rest) w c =
    (d : ℕ) × (e : ℕ) × (is_some (labels_at n v.0).index ≡ true) × (v.0 < node_count n.graph) × (v.0 ≢ u)
    × InP n.graph x u v.0 × IsDistance n.graph [] u v.0 d × Routes n x v.0 rest w e × (c ≡ d + e)
    × (is_overloaded n.graph u ≡ false)
Routes n x u (Adj l ∷ rest) w c =
    (e : ℕ) × (l.0 < link_count n.graph) × (tail n.graph l.0 ≡ u) × (has x l.0 ≡ false)
    × (is_some (adj_at n l.0) ≡ true) × Routes n x (head n.graph l.0) rest w e × (c ≡ metric n.graph l.0 + e)
    × (is_overloaded n.graph u ≡ false)

-- the list leads from s to w at the distance without x
pub record IsExact (n : Net) (x : List Bool) (s w : ℕ) (a : Path) : Type 0 where
  pub within : a.first < link_count n.graph
  pub begins : tail n.graph a.first ≡ s
  pub outside : has x a.first ≡ false
  pub middle : ℕ
  pub leads : Routes n x (head n.graph a.first) a.segments w middle
  pub fits : IsDistance n.graph x s w (metric n.graph a.first + middle)

-- what a search knows: for each waypoint a list or none
abbrev pub Knows : List (Option Path) → ℕ → Path → Type 0
Knows known w a = slice_index_or known w None ≡ Some a
