-- What an audit reports.
use Rattle.std.specs.Prelude.{ℕ, List}
use Rattle.sr_model.specs.declared.audit.Item.{Item}

-- the number of a version, and the items of its audit
pub record Audited : Type 0 where
  pub version : ℕ
  pub items : List Item
