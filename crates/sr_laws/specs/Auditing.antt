-- The law of audits.
use Rattle.std.specs.Prelude.{◌≡◌, List}
use Rattle.sr_model.specs.declared.audit.Item.{Item}
use Rattle.sr_model.specs.Label.{Net}
use Rattle.sr_model.specs.Audit.{IsAudit}

-- a net has at most one audit
abbrev pub AuditsAreUnique : Type 0
AuditsAreUnique = (n : Net) (a b : List Item) → IsAudit n a → IsAudit n b → a ≡ b
