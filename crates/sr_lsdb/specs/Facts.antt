-- What is stored, what replaces it, and facts in range.
use Rattle.std.specs.Prelude.{◌≡◌, ℕ, ◌<◌, ◌≤◌, ◌⊎◌, ◌==◌, true, if◌then◌else◌, [], Option, Some, None, is_some, All, IfSome}
use Rattle.sr_model.specs.declared.name.LinkKey.{LinkKey}
use Rattle.sr_wire.specs.declared.registry.TheConstants.{MAXIMUM_METRIC}
use Rattle.sr_lsp.specs.declared.lsp.LspId.{LspId}
use Rattle.sr_lsp.specs.declared.lsp.Lsp.{Lsp}
use Rattle.sr_lsp.specs.InRange.{FitsLsp}
use Rattle.sr_lsdb.specs.declared.facts.Stored.{Stored}
use Rattle.sr_lsdb.specs.declared.facts.Facts.{Facts}
use Rattle.sr_model.specs.declared.limits.TheConstants.{MOST_DEPTH}
use Rattle.sr_lsdb.specs.Tables.{stored_at}

-- what is stored under an id
abbrev pub stored_under : Facts → LspId → Option Stored
stored_under facts id = stored_at facts.database id

-- a PDU is taken where none of its id is stored; where its sequence number is greater; and where the numbers are
-- equal, its lifetime is 0 and the stored one is live (ISO 10589, 7.3.16)
abbrev pub IsTaken : Option Stored → Lsp → Type 0
IsTaken None lsp = Unit {0}
IsTaken (Some stored) lsp =
    (stored.sequence < lsp.sequence)
    ⊎ ((lsp.sequence ≡ stored.sequence) × (lsp.lifetime ≡ 0) × (is_some stored.live ≡ true))

-- what is stored of a PDU that is taken: its number, and the PDU unless its lifetime is 0
abbrev pub stored_of : Lsp → Stored
stored_of lsp = record { sequence = lsp.sequence; live = if lsp.lifetime == 0 then None else Some lsp }

-- the facts before the first edit
abbrev pub no_facts : Facts
no_facts = record { database = []; costs = []; downs = []; depth = 3 }

-- a live PDU stands under its own id
abbrev pub StandsUnderItsId : (LspId × Stored) → Type 0
StandsUnderItsId entry = IfSome entry.1.live (λ lsp. lsp.id ≡ entry.0)

-- what is stored of a live PDU fits its layouts, and stands under its own id
abbrev pub IsStoredWell : (LspId × Stored) → Type 0
IsStoredWell entry = IfSome entry.1.live (λ lsp. FitsLsp lsp × (lsp.id ≡ entry.0))

-- a metric of a link in use (RFC 5305, 3)
abbrev pub IsCost : (LinkKey × ℕ) → Type 0
IsCost entry = (0 < entry.1) × (entry.1 < MAXIMUM_METRIC)

-- facts in range: the live PDUs, the metrics, and at most `MOST_DEPTH` segments
pub record AreInRange (facts : Facts) : Type 0 where
  pub database : All IsStoredWell facts.database
  pub costs : All IsCost facts.costs
  pub depth : facts.depth ≤ MOST_DEPTH
