-- The nodes on the shortest walks, and how they are told from the farther ones.
use Rattle.std.specs.Prelude.{◌≡◌, ◌↔◌, ℕ, ◌+◌, ◌<◌, IsTrue, Bool, true, false, List, Some, length, slice_get, slice_index}
use Rattle.sr_model.specs.declared.case.Case.{Case}
use Rattle.sr_model.specs.declared.link.TheConstants.{FAR}
use Rattle.sr_model.specs.Graph.{Graph, node_count, link_count, tail, head, metric, carries}
use Rattle.sr_model.specs.Label.{Net}
use Rattle.sr_model.specs.Walk.{IsRow}
use Rattle.sr_model.specs.Case.{IsAffected, IsFailedSet, IsOnRepairWay, source_of}
use Rattle.sr_lanes.specs.declared.words.NodeBits.{NodeBits}
use Rattle.sr_lanes.specs.Bits.{is_in}

-- a walk from s may go on by link l, and it leads along the row
pub record LeadsAlong (g : Graph) (s : ℕ) (cells : List ℕ) (l : ℕ) : Type 0 where
  pub carry : carries g s (tail g l) ≡ true
  pub tight : slice_index cells (tail g l) + metric g l ≡ slice_index cells (head g l)

-- such a link leads from u to v
pub record IsOneBefore (g : Graph) (s : ℕ) (cells : List ℕ) (v u : ℕ) : Type 0 where
  pub link : ℕ
  pub within : link < link_count g
  pub begins : tail g link ≡ u
  pub ends : head g link ≡ v
  pub along : LeadsAlong g s cells link

-- the set has at least the nodes at which links to v begin
abbrev pub HasTails : Graph → ℕ → NodeBits → Type 0
HasTails g v set = (l : ℕ) → l < link_count g → head g l ≡ v → is_in set (tail g l) ≡ true

-- for each node there is such a set
pub record AreTails (g : Graph) (sets : List NodeBits) : Type 0 where
  pub long : length sets ≡ node_count g
  pub each : (v : ℕ) (set : NodeBits) → slice_get sets v ≡ Some set → HasTails g v set

-- the set has at least the nodes from which a link that leads along the row leads to v
abbrev pub HasNodesBefore : Graph → ℕ → List ℕ → ℕ → NodeBits → Type 0
HasNodesBefore g s cells v set = (u : ℕ) → IsOneBefore g s cells v u → is_in set u ≡ true

-- the row has the distances from the source of the case without the links that fail
abbrev pub IsRowAfter : Graph → Case → List ℕ → Type 0
IsRowAfter g case cells = (x : List Bool) × IsFailedSet g case x × IsRow g x (source_of g case) cells

-- the nodes found so far are on the walks; the affected destinations with a walk are among them, and so are the nodes
-- before each of them that isn't pending
pub record AreFound (n : Net) (case : Case) (x : List Bool) (cells : List ℕ) (found pending : NodeBits) : Type 0 where
  pub inside : (v : ℕ) → is_in pending v ≡ true → is_in found v ≡ true
  pub sound : (v : ℕ) → is_in found v ≡ true → IsOnRepairWay n case x v
  pub ends : (d : ℕ) → IsAffected n case d → slice_index cells d < FAR → is_in found d ≡ true
  pub closed : (v u : ℕ) → is_in found v ≡ true → is_in pending v ≡ false
      → IsOneBefore n.graph (source_of n.graph case) cells v u → is_in found u ≡ true

-- the set has the nodes on the shortest walks without the failed links of the case from the source to the affected
-- destinations
pub record AreWalks (n : Net) (case : Case) (set : NodeBits) : Type 0 where
  pub marks : (x : List Bool) → IsFailedSet n.graph case x → (v : ℕ) → IsTrue (is_in set v) ↔ IsOnRepairWay n case x v
