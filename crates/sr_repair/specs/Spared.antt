-- The cases of a net for which no search is made, since what was listed for them in the net before is listed still.
use Rattle.std.specs.Prelude.{◌≡◌, Option, Some, None}
use Rattle.sr_model.specs.declared.case.Case.{Case}
use Rattle.sr_model.specs.Label.{Net}
use Rattle.sr_model.specs.Stay.{HaveSameName}
use Rattle.sr_laws.specs.Steady.{IsSteadyCase}

-- from an old net to a new one
pub record Passage : Type 0 where
  pub old : Net
  pub new : Net

-- the case of the new net is an old case that is steady: of the same kind, with a protected link of the same name
pub record IsOldCase (n m : Net) (case : Case) : Type 0 where
  pub old : Case
  pub kind : old.kind ≡ case.kind
  pub name : HaveSameName n.graph m.graph old.link.0 case.link.0
  pub steady : IsSteadyCase n m old

-- no search is made for the case: there is a net before, and the case is an old case of it that is steady
abbrev pub IsSpared : Option Passage → Case → Type 0
IsSpared None case = ⊥
IsSpared (Some p) case = IsOldCase p.old p.new case
