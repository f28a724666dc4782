-- Distances that stand but for those of the lost nodes.
use Rattle.std.specs.Prelude.{◌≡◌, ℕ, ◌<◌, true, if◌then◌else◌, List, [], length, slice_index}
use Rattle.sr_lanes.specs.Bits.{is_in}
use Rattle.sr_lanes.specs.declared.limits.TheConstants.{NODES_AT_MOST}
use Rattle.sr_lanes.specs.declared.words.NodeBits.{NodeBits}
use Rattle.sr_model.specs.declared.link.NodeNo.{NodeNo}
use Rattle.sr_model.specs.declared.link.TheConstants.{FAR}
use Rattle.sr_model.specs.Graph.{Graph}
use Rattle.sr_spf.specs.Begun.{IsBegun}
use Rattle.sr_spf.specs.Nodes.{AreThose}

-- the nodes are those of the set, ascending
abbrev pub AreListedNodes : NodeBits → List NodeNo → Type 0
AreListedNodes set nodes = AreThose (λ v. is_in set v ≡ true) NODES_AT_MOST nodes

-- the cells are those of the row, but FAR at the nodes of the set
pub record AreCellsWithout (row : List ℕ) (lost : NodeBits) (cells : List ℕ) : Type 0 where
  pub long : length cells ≡ length row
  pub each : (v : ℕ) → slice_index cells v ≡ (if is_in lost v then FAR else slice_index row v)

-- a search from s in the whole graph may begin with the row, once the lost nodes have no distance
pub record StandsBut (g : Graph) (s : ℕ) (row : List ℕ) (lost : NodeBits) : Type 0 where
  pub within : (v : ℕ) → is_in lost v ≡ true → v < length row
  pub begun : (cells : List ℕ) (nodes : List NodeNo) → AreCellsWithout row lost cells → AreListedNodes lost nodes
      → IsBegun g [] s cells nodes
