-- The rows of distances of a certificate.
use Rattle.std.specs.Prelude.{◌≡◌, ℕ, ◌<◌, Bool, List, [], ◌∷◌, length, slice_index}
use Rattle.sr_model.specs.declared.repair.Segment.{Segment}
use Rattle.sr_model.specs.declared.repair.Segment.TheVariants.{Node, Adj}
use Rattle.sr_model.specs.Graph.{Graph, node_count, head}
use Rattle.sr_model.specs.Walk.{IsCell, IsRow}

-- what a row is of: the distances from a node, or those to it
pub data Heading : Type 0 where
  From : ℕ → Heading
  To : ℕ → Heading

-- a row of distances to v, one cell for each node
pub record IsRowTo (g : Graph) (x : List Bool) (v : ℕ) (cells : List ℕ) : Type 0 where
  pub long : length cells ≡ node_count g
  pub each : (u : ℕ) → u < node_count g → IsCell g x u v (slice_index cells u)

-- the cells are the distances that the heading says, no link having failed
abbrev pub HoldsDistances : Graph → Heading → List ℕ → Type 0
HoldsDistances g (From u) cells = IsRow g [] u cells
HoldsDistances g (To v) cells = IsRowTo g [] v cells

-- the rows behind the first one, for segments from waypoint u on towards d: for each node segment those from its
-- waypoint and to its node; for the last waypoint those from it and to d
abbrev pub headings : Graph → ℕ → List Segment → ℕ → List Heading
headings g u [] d = From u ∷ To d ∷ []
headings g u (Node v ∷ segments) d = From u ∷ To v.0 ∷ headings g v.0 segments d
headings g u (Adj l ∷ segments) d = headings g (head g l.0) segments d
