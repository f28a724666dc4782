-- The version before, as the next one is made from it.
use Rattle.std.specs.Prelude.{◌≡◌, ℕ, Bool, true, List, Option, Some}
use Rattle.std.specs.Arc.{arc_value}
use Rattle.sr_model.specs.declared.case.Case.{Case}
use Rattle.sr_model.specs.Label.{Net}
use Rattle.sr_spf.specs.Trees.{Forest, AreTrees}
use Rattle.sr_spf.specs.Renewed.{AreInPlace}
use Rattle.sr_delta.specs.Changes.{Differences, AreChanges}
use Rattle.sr_graph.specs.Ranges.{HoldsLinks}
use Rattle.sr_delta.specs.Partners.{ArePartners}
use Rattle.sr_encode.specs.declared.renumbered.Renumbering.{Renumbering}
use Rattle.sr_delta.specs.declared.staying.Staying.{Staying}
use Rattle.sr_delta.specs.Stayers.{AreStaying}
use Rattle.sr_delta.specs.Moved.{AreMoved}
use Rattle.sr_lanes.specs.declared.words.NodeBits.{NodeBits}
use Rattle.sr_laws.specs.Steady.{IsSteadyCase}
use Rattle.sr_model.specs.Graph.{node_count}
use Rattle.sr_model.specs.Stay.{HaveSameName}
use Rattle.sr_repair.specs.declared.known_case.KnownCase.{KnownCase}
use Rattle.sr_repair.specs.Answers.{AffectsSome}
use Rattle.sr_repair.specs.KnownCase.{AreToldWalks}
use Rattle.sr_repair.specs.Solutions.{Solution, IsSolution}
use Rattle.sr_repair.specs.Spared.{Passage, IsSpared}

-- the differences of the nets, which have the same nodes; the nodes that stay; and whether each link keeps its number
pub record IsFormer (p : Passage) (changes : Differences) (staying : Staying) (in_place : Bool) : Type 0 where
  pub differ : AreChanges p.old p.new changes
  pub same : changes.same ≡ true
  pub stay : AreStaying p.old p.new staying
  pub numbers : in_place ≡ true → AreInPlace changes.partners

-- the trees of the new net, and for each node those to which it isn't as far in the new net as in the old one
pub record AreMeasured (p : Passage) (forest : Forest) (sets : List NodeBits) : Type 0 where
  pub trees : AreTrees p.new.graph forest
  pub moved : AreMoved p.old.graph p.new.graph sets (node_count p.old.graph)

-- where some destination is affected, the case isn't spared
abbrev pub IsSearched : Option Passage → Net → Case → Type 0
IsSearched former n case = AffectsSome n case → IsSpared former case → ⊥

-- a net with its trees, and the version before it, if there is one
pub record Setting : Type 0 where
  pub net : Net
  pub trees : Forest
  pub former : Option Passage

-- the trees are those of the net, which is the new one
pub record IsSetting (s : Setting) : Type 0 where
  pub trees : AreTrees s.net.graph s.trees
  pub new : (p : Passage) → s.former ≡ Some p → p.new ≡ s.net

-- where the old case is steady and s is its solution, t is that of the case of the new net whose protected link has its
-- name
abbrev pub StaySolved : Passage → Case → Solution → Solution → Type 0
StaySolved p old s t =
    (new : Case) → old.kind ≡ new.kind → HaveSameName p.old.graph p.new.graph old.link.0 new.link.0
    → IsSteadyCase p.old p.new old → IsSolution p.old old s → IsSolution p.new new t

-- how links are numbered in both nets, those of node s among them
pub record IsRenumbering (p : Passage) (s : ℕ) (r : Renumbering) : Type 0 where
  pub links : ArePartners p.old.graph p.new.graph r.links.now
  pub end : ℕ
  pub end' : ℕ
  pub before : HoldsLinks p.old.graph s r.before.0 end
  pub after : HoldsLinks p.new.graph s r.after.0 end'

-- where the old case is steady, the record that is kept of it has a solution in the new net, and the walks of the old
-- case
pub record StayKnown (p : Passage) (old : Case) (was kept : KnownCase) : Type 0 where
  pub solved : StaySolved p old (arc_value was.solved) (arc_value kept.solved)
  pub walks : AreToldWalks p.old old kept.walks
