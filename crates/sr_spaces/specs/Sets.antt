-- Sets of nodes that are spaces.
use Rattle.std.specs.Prelude.{ℕ, ◌<◌, ◌↔◌, IsTrue, Bool, List}
use Rattle.sr_model.specs.Graph.{Graph, node_count, has}
use Rattle.sr_model.specs.Space.{InP, InExtendedP, InQ}

-- the tests tell P of u
abbrev pub IsP : Graph → List Bool → ℕ → List Bool → Type 0
IsP g x u tests = (v : ℕ) → v < node_count g → IsTrue (has tests v) ↔ InP g x u v

-- the tests tell extended P of s
abbrev pub IsExtendedP : Graph → List Bool → ℕ → List Bool → Type 0
IsExtendedP g x s tests = (v : ℕ) → v < node_count g → IsTrue (has tests v) ↔ InExtendedP g x s v

-- the tests tell Q of d
abbrev pub IsQ : Graph → List Bool → ℕ → List Bool → Type 0
IsQ g x d tests = (u : ℕ) → u < node_count g → IsTrue (has tests u) ↔ InQ g x d u
