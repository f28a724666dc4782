-- What is asked of a case before it is steady.
use Rattle.std.specs.Prelude.{◌≢◌, ◌↔◌, ◌⊎◌, ℕ, ◌<◌, Bool, List}
use Rattle.sr_model.specs.declared.case.Case.{Case}
use Rattle.sr_model.specs.Graph.{node_count}
use Rattle.sr_model.specs.Case.{IsAffected, IsFailedSet, IsOnRepairWay, source_of}
use Rattle.sr_model.specs.Label.{Net}
use Rattle.sr_model.specs.Stay.{IsKeptTree}
use Rattle.sr_laws.specs.Steady.{HasSameSegments, IsSameFar, pivot_of}
use Rattle.sr_delta.specs.declared.change.Change.{Change}
use Rattle.sr_delta.specs.Idle.{AreIdleOrFailed}
use Rattle.sr_delta.specs.Cases.{Computed}

-- each node on the walks of the case has the same segments in both nets
abbrev pub AreSegmentsKept : Net → Net → Case → Type 0
AreSegmentsKept n m case =
    (x : List Bool) → IsFailedSet n.graph case x
    → (w : ℕ) → w < node_count n.graph → IsOnRepairWay n case x w → HasSameSegments n m w

-- each node on the walks of the case is the source, or its tree stays, or it is as far as it was to the node at which
-- the failed links lie, as that node is to each node on the walks
abbrev pub AreStepsKept : Net → Net → Case → Type 0
AreStepsKept n m case =
    (x : List Bool) → IsFailedSet n.graph case x
    → (u v : ℕ) → u < node_count n.graph → v < node_count n.graph → IsOnRepairWay n case x u → IsOnRepairWay n case x v
    → u ≢ source_of n.graph case
    → IsKeptTree n.graph m.graph u
    ⊎ (IsSameFar n.graph m.graph u (pivot_of n.graph case) × IsSameFar n.graph m.graph (pivot_of n.graph case) v)

-- the same destinations are affected in a case of the old net and in one of the new net
abbrev pub AreAffectedAlike : Net → Case → Net → Case → Type 0
AreAffectedAlike n case m there = (d : ℕ) → IsAffected n case d ↔ IsAffected m there d

-- what is asked of the old case but of the links that fail and the destinations that are affected in the new net:
-- changed links are idle after the failure, and the nodes on the walks have the same segments and keep their steps
pub record IsSteadyHere (c : Computed) (m : Net) (links : List Change) : Type 0 where
  pub idle : AreIdleOrFailed c.net.graph c.case c.cells links
  pub segments : AreSegmentsKept c.net m c.case
  pub steps : AreStepsKept c.net m c.case
