-- The accepted facts, the edits that are staged, and what staging and accepting do.
use Rattle.std.specs.Prelude.{◌≡◌, ℕ, ◌+◌, ◌≤◌}
use Rattle.sr_lsdb.specs.declared.facts.Facts.{Facts}
use Rattle.sr_lsdb.specs.declared.limits.TheConstants.{MOST_STAGED}
use Rattle.sr_lsdb.specs.Facts.{no_facts, AreInRange}
use Rattle.sr_lsdb.specs.Edit.{Edit, apply}

-- what is edited: the accepted facts, the tentative ones that the staged edits make of them, and how many are staged
pub record Editing : Type 0 where
  pub accepted : Facts
  pub tentative : Facts
  pub staged : ℕ

-- before the first edit
abbrev pub opening : Editing
opening = record { accepted = no_facts; tentative = no_facts; staged = 0 }

-- an edit is staged: it reaches the tentative facts alone
abbrev pub with_edit : Edit → Editing → Editing
with_edit edit editing = record {
  accepted = editing.accepted;
  tentative = apply edit editing.tentative;
  staged = editing.staged + 1;
}

-- the tentative facts are accepted
abbrev pub with_accepted : Editing → Editing
with_accepted editing = record { accepted = editing.tentative; tentative = editing.tentative; staged = 0 }

-- the staged edits are dropped
abbrev pub with_none_staged : Editing → Editing
with_none_staged editing = record { accepted = editing.accepted; tentative = editing.accepted; staged = 0 }

-- what holds of every editor: the facts are in range, not too much is staged, and where nothing is the tentative
-- facts are the accepted ones
pub record IsSteady (editing : Editing) : Type 0 where
  pub accepted : AreInRange editing.accepted
  pub tentative : AreInRange editing.tentative
  pub staged : editing.staged ≤ MOST_STAGED
  pub idle : editing.staged ≡ 0 → editing.tentative ≡ editing.accepted
