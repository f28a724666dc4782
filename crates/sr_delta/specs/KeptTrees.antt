-- The trees that stay.
use Rattle.std.specs.Prelude.{◌≡◌, ◌↔◌, ℕ, ◌<◌, Bool, true, List, length}
use Rattle.sr_model.specs.Graph.{node_count, has}
use Rattle.sr_model.specs.Label.{Net}
use Rattle.sr_model.specs.Stay.{IsKeptTree}

-- of the nodes below this number those are marked whose trees stay
pub record AreTreesKeptBelow (n m : Net) (count : ℕ) (marks : List Bool) : Type 0 where
  pub long : length marks ≡ count
  pub each : (u : ℕ) → u < count → (has marks u ≡ true) ↔ IsKeptTree n.graph m.graph u

-- just the nodes are marked whose trees stay
abbrev pub AreKeptTrees : Net → Net → List Bool → Type 0
AreKeptTrees n m marks = AreTreesKeptBelow n m (node_count n.graph) marks
