-- What the failure of a link leaves, told from the distances that the failure of its end leaves.
use Rattle.std.specs.Prelude.{◌≡◌, ◌≢◌, ℕ, ◌+◌, ◌<◌, ◌≤◌, ◌⊎◌, true, List, length, slice_index}
use Rattle.sr_model.specs.declared.case.Case.{Case}
use Rattle.sr_model.specs.declared.case.Kind.TheVariants.{Node as NodeKind}
use Rattle.sr_model.specs.declared.link.NodeNo.{NodeNo}
use Rattle.sr_model.specs.Graph.{Graph, carries}
use Rattle.sr_spf.specs.Nodes.{listed_at}

-- the case in which the end of the same link fails
abbrev pub node_case : Case → Case
node_case case = record { kind = NodeKind; link = case.link }

-- what is known of the ways past a node: the distance to it, the distances around it, and those from it on
pub record WaysPast : Type 0 where
  pub end : ℕ
  pub into : ℕ
  pub around : List ℕ
  pub onward : List ℕ

-- c is the least of the way around the node and of the way over it, where a walk to v may pass it
pub record IsDistancePast (g : Graph) (w : WaysPast) (v c : ℕ) : Type 0 where
  pub around_it : c ≤ slice_index w.around v
  pub over_it : carries g v w.end ≡ true → c ≤ w.into + slice_index w.onward v
  pub one : (c ≡ slice_index w.around v) ⊎ ((carries g v w.end ≡ true) × (c ≡ w.into + slice_index w.onward v))

-- the cells of the first i lost nodes are filled so, and the others are as before
pub record AreLostFilled (g : Graph) (w : WaysPast) (lost : List NodeNo) (i : ℕ) (before after : List ℕ) : Type 0 where
  pub long : length after ≡ length before
  pub filled : (j : ℕ) → j < i → IsDistancePast g w (listed_at lost j) (slice_index after (listed_at lost j))
  pub others : (v : ℕ) → ((j : ℕ) → j < i → listed_at lost j ≢ v) → slice_index after v ≡ slice_index before v
