-- The law of reasons.
use Rattle.std.specs.Prelude.{◌≡◌, ℕ}
use Rattle.sr_model.specs.declared.case.Case.{Case}
use Rattle.sr_model.specs.Label.{Net}
use Rattle.sr_model.specs.Rule.{IsNet}
use Rattle.sr_why.specs.declared.reason.Cause.{Cause}
use Rattle.sr_why.specs.Reasons.{IsReason}

-- a case has one reason for a destination
abbrev pub ReasonsAreDetermined : Type 0
ReasonsAreDetermined = (n : Net) (case : Case) (d : ℕ) (one other : Cause) → IsNet n → IsReason n case d one
    → IsReason n case d other → one ≡ other
