-- What a case leaves.
use Rattle.std.specs.Prelude.{ℕ, Bool, List}
use Rattle.sr_model.specs.declared.case.Case.{Case}
use Rattle.sr_model.specs.declared.link.NodeNo.{NodeNo}
use Rattle.sr_model.specs.Label.{Net}
use Rattle.sr_model.specs.Walk.{IsRow}
use Rattle.sr_model.specs.Case.{IsFailedSet, source_of}
use Rattle.sr_spf.specs.Begun.{IsBegun}
use Rattle.sr_post.specs.declared.kept.HopNodes.{HopNodes}
use Rattle.sr_post.specs.Kept.{AreKeptHops}
use Rattle.sr_post.specs.Sets.{HaveKeptCells}

-- the failed links, the distances from the source without them, and the hops that are kept, each with its nodes
pub record Remains : Type 0 where
  pub failed : List Bool
  pub cells : List ℕ
  pub kept : List HopNodes

-- the links that fail in the case, the row of the source without them, and the hops that are kept
pub record IsPost (n : Net) (case : Case) (p : Remains) : Type 0 where
  pub failed : IsFailedSet n.graph case p.failed
  pub row : IsRow n.graph p.failed (source_of n.graph case) p.cells
  pub hops : AreKeptHops n.graph p.failed (source_of n.graph case) p.kept

-- what is known of a case before its search: failed links, distances that stay, lost nodes, and hops that are kept
pub record Beginning : Type 0 where
  pub failed : List Bool
  pub cells : List ℕ
  pub lost : List NodeNo
  pub kept : List HopNodes

-- the links that fail in the case, what a search without them goes on from, and the hops that are kept
pub record IsBeginning (n : Net) (case : Case) (b : Beginning) : Type 0 where
  pub failed : IsFailedSet n.graph case b.failed
  pub known : IsBegun n.graph b.failed (source_of n.graph case) b.cells b.lost
  pub stay : HaveKeptCells n.graph b.failed (source_of n.graph case) b.cells b.lost
  pub hops : AreKeptHops n.graph b.failed (source_of n.graph case) b.kept
