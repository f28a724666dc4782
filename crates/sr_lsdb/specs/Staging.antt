-- What the staging of an edit answers.
use Rattle.std.specs.Prelude.{◌≡◌, ℕ, ◌+◌, ◌<◌, Option, None, Some, Result}
use Rattle.std.specs.declared.result.Result.TheVariants.{Ok, Err}
use Rattle.sr_lsp.specs.declared.lsp.Lsp.{Lsp}
use Rattle.sr_lsdb.specs.declared.facts.Stored.{Stored}
use Rattle.sr_lsdb.specs.declared.stage_fault.StageFault.{StageFault}
use Rattle.sr_lsdb.specs.declared.stage_fault.StageFault.TheVariants.{Stale, Full, Memory}
use Rattle.sr_lsdb.specs.declared.limits.TheConstants.{MOST_STAGED}
use Rattle.sr_lsdb.specs.Facts.{IsTaken, stored_under}
use Rattle.sr_lsdb.specs.Edit.{Edit}
use Rattle.sr_lsdb.specs.Edit.Edit.{Announce}
use Rattle.sr_lsdb.specs.Editing.{Editing, with_edit}

-- there was room, the count is one more, and the edit reached the tentative facts
pub record IsStaged (edit : Edit) (old new : Editing) (count : ℕ) : Type 0 where
  pub room : old.staged < MOST_STAGED
  pub counted : count ≡ old.staged + 1
  pub state : new ≡ with_edit edit old

-- the edit is staged; or the count stands at its limit, or memory ran out, and nothing changed
abbrev pub Stages : Edit → Editing → Editing → Result ℕ StageFault → Type 0
Stages edit old new (Ok count) = IsStaged edit old new count
Stages edit old new (Err (Stale stored given)) = ⊥
Stages edit old new (Err Full) = (old.staged ≡ MOST_STAGED) × (new ≡ old)
Stages edit old new (Err (Memory error)) = new ≡ old

-- a PDU isn't taken, and these are the stored number and its own
abbrev pub IsStale : Option Stored → Lsp → ℕ → ℕ → Type 0
IsStale None lsp number own = ⊥
IsStale (Some stored) lsp number own = ¬ IsTaken (Some stored) lsp × (number ≡ stored.sequence) × (own ≡ lsp.sequence)

-- a PDU is staged where it is taken; else it is stale, or the count stands at its limit, or memory ran out, and
-- nothing changed
abbrev pub StagesLsp : Lsp → Editing → Editing → Result ℕ StageFault → Type 0
StagesLsp lsp old new (Ok count) =
    IsTaken (stored_under old.tentative lsp.id) lsp × IsStaged (Announce lsp) old new count
StagesLsp lsp old new (Err (Stale number own)) =
    IsStale (stored_under old.tentative lsp.id) lsp number own × (new ≡ old)
StagesLsp lsp old new (Err Full) =
    IsTaken (stored_under old.tentative lsp.id) lsp × (old.staged ≡ MOST_STAGED) × (new ≡ old)
StagesLsp lsp old new (Err (Memory error)) = new ≡ old
