-- A case that has a list for a destination, however deep.
use Rattle.std.specs.Prelude.{◌≡◌, ℕ, true}
use Rattle.sr_model.specs.declared.case.Case.{Case}
use Rattle.sr_model.specs.declared.repair.Answer.{Answer}
use Rattle.sr_model.specs.Audit.{is_least}
use Rattle.sr_model.specs.Label.{Net}
use Rattle.sr_model.specs.Case.{IsAffected}
use Rattle.sr_laws.specs.Listed.{IsCaseListed}

-- d is affected, and what is listed in the case for it is a list
pub record HasList (n : Net) (case : Case) (d : ℕ) : Type 0 where
  pub affected : IsAffected n case d
  pub list : (answer : Answer) → IsCaseListed n case d answer → is_least answer ≡ true
