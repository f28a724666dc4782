-- The laws of differences.
use Rattle.std.specs.Prelude.{◌≡◌, ◌+◌, List, [], length}
use Rattle.sr_model.specs.declared.audit.Item.{Item}
use Rattle.sr_model.specs.Audit.{IsAudit, counts_of}
use Rattle.sr_model.specs.Label.{Net}
use Rattle.sr_model.specs.Rule.{IsNet}
use Rattle.sr_diff.specs.declared.differences.Diff.{Diff}
use Rattle.sr_diff.specs.Diff.{IsDiff}

-- two nets have one diff
abbrev pub DiffsAreDetermined : Type 0
DiffsAreDetermined = (old new : Net) (one two : Diff) → IsNet old → IsDiff old new one → IsDiff old new two → one ≡ two

-- what the old net covers is lost, changed or the same, and what the new net covers is gained, changed or the same
abbrev pub DiffsAddUp : Type 0
DiffsAddUp = (old new : Net) (before after : List Item) (diff : Diff)
    → IsNet old → IsNet new → IsAudit old before → IsAudit new after → IsDiff old new diff
    → (length diff.lost + length diff.changed + diff.same ≡ (counts_of before).covered)
    × (length diff.gained + length diff.changed + diff.same ≡ (counts_of after).covered)

-- a net differs in nothing from itself
abbrev pub ANetIsItsOwn : Type 0
ANetIsItsOwn = (n : Net) (diff : Diff) → IsNet n → IsDiff n n diff
    → (diff.lost ≡ []) × (diff.gained ≡ []) × (diff.changed ≡ [])
