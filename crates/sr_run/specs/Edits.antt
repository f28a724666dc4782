-- What is told to edits, to `drop` and to `commit`, and the state after it.
use Rattle.std.specs.Prelude.{◌≡◌, ℕ, ◌+◌, ◌<◌, ◌≤◌, ◌⊎◌, List, length, Option, Some, None}
use Rattle.sr_model.specs.declared.name.LinkKey.{LinkKey}
use Rattle.sr_model.specs.declared.rule.DomainRule.{DomainRule}
use Rattle.sr_model.specs.Label.{Net}
use Rattle.sr_wire.specs.declared.fault.Malformed.{Malformed}
use Rattle.sr_lsp.specs.declared.lsp.Lsp.{Lsp}
use Rattle.sr_wire.specs.Fault.{check_number}
use Rattle.sr_lsp.specs.Lsp.{Reads, IsBroken}
use Rattle.sr_lsdb.specs.Edit.{Edit}
use Rattle.sr_lsdb.specs.Edit.Edit.{Announce}
use Rattle.sr_lsdb.specs.Facts.{IsTaken, stored_under}
use Rattle.sr_lsdb.specs.declared.limits.TheConstants.{MOST_STAGED}
use Rattle.sr_lsdb.specs.Staging.{IsStale}
use Rattle.sr_domain.specs.Net.{IsNetOf}
use Rattle.sr_domain.specs.Rules.{IsFirstBrokenRule}
use Rattle.sr_script.specs.declared.name.LinkName.{LinkName}
use Rattle.sr_print.specs.declared.refusal.Refusal.{Refusal}
use Rattle.sr_print.specs.declared.refusal.Refusal.TheVariants.{Malformed as MalformedPdu, Stale, StagedFull, NoVersion, VersionsFull, Rule}
use Rattle.sr_print.specs.Told.{Told}
use Rattle.sr_print.specs.Told.Told.{Staged, Dropped, Version, Refused}
use Rattle.sr_repair.specs.Version.{NumberedNet, version_of}
use Rattle.sr_model.specs.declared.limits.TheConstants.{MOST_VERSION}
use Rattle.sr_run.specs.Domain.{Domain, last_version, with_staged, with_dropped, with_net}
use Rattle.sr_run.specs.Names.{OfAnnounced}

-- the line is refused for this reason, and the state stays
abbrev pub Refuses : Domain → Told → Domain → Refusal → Type 0
Refuses old told new reason = (told ≡ Refused reason) × (new ≡ old)

-- an edit is staged where fewer than 4,096 are, and refused where 4,096 are
abbrev pub StagesEdit : Edit → Domain → Told → Domain → Type 0
StagesEdit edit old told new =
    ((old.editing.staged ≡ MOST_STAGED) × Refuses old told new StagedFull)
    ⊎ ((old.editing.staged < MOST_STAGED) × (told ≡ Staged (old.editing.staged + 1)) × (new ≡ with_staged old edit))

-- a PDU is stale, or it is staged
abbrev pub StagesPdu : Lsp → Domain → Told → Domain → Type 0
StagesPdu lsp old told new =
    ((stored : ℕ) × (given : ℕ) × IsStale (stored_under old.editing.tentative lsp.id) lsp stored given
    × Refuses old told new (Stale stored given))
    ⊎ (IsTaken (stored_under old.editing.tentative lsp.id) lsp × StagesEdit (Announce lsp) old told new)

-- the refusal of octets that fail a check, by its offset and its number
abbrev pub malformed_pdu : Malformed → Refusal
malformed_pdu malformed = MalformedPdu malformed.offset (check_number malformed.check)

-- `lsp`: the octets fail a check, or the PDU that they are read as is staged
abbrev pub Announces : List ℕ → Domain → Told → Domain → Type 0
Announces octets old told new =
    ((malformed : Malformed) × IsBroken octets malformed × Refuses old told new (malformed_pdu malformed))
    ⊎ ((lsp : Lsp) × Reads octets lsp × StagesPdu lsp old told new)

-- an edit of the announced link of this name in the last version
abbrev pub EditsNamed : (LinkKey → Edit) → LinkName → Option NumberedNet → Domain → Told → Domain → Type 0
EditsNamed edit link None old told new = Refuses old told new NoVersion
EditsNamed edit link (Some version) old told new =
    OfAnnounced (Refuses old told new) version.net link (λ key. StagesEdit (edit key) old told new)

-- `cost`, `down`, `up`: the same, of the last version of the state
abbrev pub EditsLink : (LinkKey → Edit) → LinkName → Domain → Told → Domain → Type 0
EditsLink edit link old told new = EditsNamed edit link (last_version old.nets) old told new

-- `drop`
abbrev pub DropsStaged : Domain → Told → Domain → Type 0
DropsStaged old told new = (told ≡ Dropped old.editing.staged) × (new ≡ with_dropped old)

-- the first rule that the tentative facts break is named, and the staged edits are dropped
pub record Rejects (old : Domain) (told : Told) (new : Domain) : Type 0 where
  pub rule : DomainRule
  pub broken : IsFirstBrokenRule old.editing.tentative rule
  pub told_is : told ≡ Refused (Rule rule)
  pub dropped : new ≡ with_dropped old

-- the tentative facts are accepted, and their net is the next version
pub record Accepts (old : Domain) (told : Told) (new : Domain) : Type 0 where
  pub net : Net
  pub is_net : IsNetOf old.editing.tentative net
  pub told_is : told ≡ Version (version_of (length old.nets + 1) net)
  pub accepted : new ≡ with_net old net

-- `commit`: 65,535 commits were accepted already, or the tentative facts are rejected or accepted
abbrev pub Commits : Domain → Told → Domain → Type 0
Commits old told new =
    ((MOST_VERSION ≤ length old.nets) × Refuses old told new VersionsFull)
    ⊎ ((length old.nets < MOST_VERSION) × (Rejects old told new ⊎ Accepts old told new))
