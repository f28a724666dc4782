-- The lines of an audit, case by case.
use Rattle.std.specs.Prelude.{◌≡◌, ℕ, ◌+◌, List, ◌++◌}
use Rattle.sr_model.specs.declared.audit.Item.{Item}
use Rattle.sr_model.specs.Label.{Net}
use Rattle.sr_audit.specs.Cases.{AreBetween}
use Rattle.sr_print.specs.Repairs.{item_lines}

-- the lines of the audit of the case at this place were appended
pub record PutsCase (n : Net) (place : ℕ) (before after : List ℕ) : Type 0 where
  pub items : List Item
  pub between : AreBetween n place (place + 1) items
  pub lines : after ≡ before ++ item_lines n items
