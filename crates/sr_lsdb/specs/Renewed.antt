-- Facts that say the same of a domain although PDUs were renewed, and although the depth is another (this project's
-- rule).
use Rattle.std.specs.Prelude.{◌≡◌, List, Option, map}
use Rattle.std.specs.Option.{option_map}
use Rattle.sr_lsp.specs.declared.lsp.LspId.{LspId}
use Rattle.sr_lsp.specs.Said.{Said, said_by}
use Rattle.sr_lsdb.specs.declared.facts.Facts.{Facts}
use Rattle.sr_lsdb.specs.declared.facts.Stored.{Stored}

-- what is said by what is stored: nothing where only the number of a purged PDU is left
abbrev pub said_of : Stored → Option Said
said_of stored = option_map said_by stored.live

-- what is said under each id, in order of id
abbrev pub all_said : List (LspId × Stored) → List (LspId × Option Said)
all_said entries = map (λ (entry : LspId × Stored). (entry.0, said_of entry.1)) entries

-- the same is said under the same ids, and the same metrics are set and the same pairs down
pub record SayTheSame (one other : Facts) : Type 0 where
  pub database : all_said one.database ≡ all_said other.database
  pub costs : one.costs ≡ other.costs
  pub downs : one.downs ≡ other.downs
