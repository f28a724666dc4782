-- A case of an old net, and what is asked of it before it stays.
use Rattle.std.specs.Prelude.{ℕ, ◌<◌, Bool, List, []}
use Rattle.sr_model.specs.declared.case.Case.{Case}
use Rattle.sr_model.specs.Graph.{node_count}
use Rattle.sr_model.specs.Walk.{IsNextHop, IsRow}
use Rattle.sr_model.specs.Case.{IsCase, IsFailedSet, IsOutside, IsOnRepairWay, source_of}
use Rattle.sr_model.specs.Label.{Net}
use Rattle.sr_model.specs.Stay.{HasSameDepth, IsKeptTree, IsKeptNode}
use Rattle.sr_lanes.specs.declared.words.NodeBits.{NodeBits}
use Rattle.sr_spf.specs.Trees.{Forest, AreTrees}
use Rattle.sr_post.specs.Marks.{AreWalks}
use Rattle.sr_delta.specs.declared.change.Change.{Change}
use Rattle.sr_delta.specs.Idle.{AreIdleOrFailed}
use Rattle.sr_delta.specs.Alike.{IsIndexedAlike}

-- a net with its trees, one of its cases, the distances from its source without the links that fail, and the nodes on
-- the shortest walks without them to the affected destinations
pub record Computed : Type 0 where
  pub net : Net
  pub trees : Forest
  pub case : Case
  pub cells : List ℕ
  pub walks : NodeBits

-- they are those of the net and of the case
pub record IsComputed (c : Computed) : Type 0 where
  pub trees : AreTrees c.net.graph c.trees
  pub within : IsCase c.net.graph c.case
  pub row : (x : List Bool) → IsFailedSet c.net.graph c.case x
      → IsRow c.net.graph x (source_of c.net.graph c.case) c.cells
  pub walks : AreWalks c.net c.case c.walks

-- node d isn't the source nor fails, and the protected link is a next hop of the source towards it
abbrev pub IsLedTo : Net → Case → ℕ → Type 0
IsLedTo n case d = IsOutside n.graph case d × IsNextHop n.graph [] (source_of n.graph case) d case.link.0

-- where the protected link leads to node d, that has an index in both nets or in neither
abbrev pub IsEndAlike : Net → Net → Case → ℕ → Type 0
IsEndAlike n m case d = IsLedTo n case d → IsIndexedAlike n m d

-- each node that isn't the source nor fails, and towards which the protected link is a next hop of the source, has an
-- index in both nets or in neither
abbrev pub AreEndsAlike : Net → Net → Case → Type 0
AreEndsAlike n m case = (d : ℕ) → d < node_count n.graph → IsEndAlike n m case d

-- each node on a shortest walk without the failed links from the source to an affected destination is kept
abbrev pub AreWalksKept : Net → Net → Case → Type 0
AreWalksKept n m case =
    (x : List Bool) → IsFailedSet n.graph case x
    → (w : ℕ) → w < node_count n.graph → IsOnRepairWay n case x w → IsKeptNode n m w

-- what is asked of the old case but of the links that fail in the new net and of the nodes on the walks: the source
-- announces the same maximum SID depth, its tree stays, changed links are idle after the failure too, and ends have an
-- index alike
pub record IsKeptHere (c : Computed) (m : Net) (links : List Change) : Type 0 where
  pub depth : HasSameDepth c.net m (source_of c.net.graph c.case)
  pub tree : IsKeptTree c.net.graph m.graph (source_of c.net.graph c.case)
  pub idle : AreIdleOrFailed c.net.graph c.case c.cells links
  pub index : AreEndsAlike c.net m c.case
