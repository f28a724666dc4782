-- A graph where links fail.
use Rattle.std.specs.Prelude.{◌≡◌, ◌↔◌, ℕ, ◌<◌, Bool, true, List, [], Option, IfSome}
use Rattle.sr_lanes.specs.Bits.{is_in}
use Rattle.sr_lanes.specs.declared.words.NodeBits.{NodeBits}
use Rattle.sr_model.specs.declared.link.NodeNo.{NodeNo}
use Rattle.sr_model.specs.declared.link.TheConstants.{FAR}
use Rattle.sr_model.specs.Graph.{Graph, node_count, link_count, has}
use Rattle.sr_model.specs.Walk.{IsWalk}
use Rattle.sr_model.specs.Case.{Touches}
use Rattle.sr_spf.specs.Trees.{Forest, AreTrees, row_at, cell_at}

-- a graph, and the links of it that fail
pub record Failure : Type 0 where
  pub graph : Graph
  pub failed : List Bool

-- just the links that begin or end at node f fail
abbrev pub IsAround : Graph → List Bool → ℕ → Type 0
IsAround g x f = (l : ℕ) → l < link_count g → (has x l ≡ true) ↔ Touches g l f

-- the trees are the graph's, and where there is such a node, just the links at it fail
pub record AreSpaces (g : Graph) (t : Forest) (x : List Bool) (around : Option NodeNo) : Type 0 where
  pub trees : AreTrees g t
  pub node : IfSome around (λ (f : NodeNo). (f.0 < node_count g) × IsAround g x f.0)

-- a walk leads from u to v
abbrev pub HasWalk : Graph → ℕ → ℕ → Type 0
HasWalk g u v = (p : List ℕ) × IsWalk g [] u p v

-- the set has nodes alone, and a walk leads from u to each of them
abbrev pub HaveWalks : Graph → ℕ → NodeBits → Type 0
HaveWalks g u set = (v : ℕ) → is_in set v ≡ true → (v < node_count g) × HasWalk g u v

-- the trees are the graph's, the row is that of node u, and u reaches each node of the set
pub record AreReachedBy (g : Graph) (t : Forest) (cells : List ℕ) (u : ℕ) (set : NodeBits) : Type 0 where
  pub trees : AreTrees g t
  pub row : cells ≡ row_at t.rows u
  pub begins : u < node_count g
  pub each : (v : ℕ) → is_in set v ≡ true → (v < node_count g) × (cell_at t u v < FAR)

-- the trees are the graph's, the row is that of node u, and u reaches node v
pub record IsReached (g : Graph) (t : Forest) (cells : List ℕ) (u v : ℕ) : Type 0 where
  pub trees : AreTrees g t
  pub row : cells ≡ row_at t.rows u
  pub begins : u < node_count g
  pub ends : v < node_count g
  pub near : cell_at t u v < FAR
