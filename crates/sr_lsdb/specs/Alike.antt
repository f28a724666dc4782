-- What the facts of two sides have alike at a name.
use Rattle.std.specs.Prelude.{◌≡◌, List, Option}
use Rattle.std.specs.Option.{option_map}
use Rattle.sr_lsp.specs.declared.lsp.LspId.{LspId}
use Rattle.sr_lsp.specs.Said.{Said}
use Rattle.sr_lsdb.specs.declared.facts.Facts.{Facts}
use Rattle.sr_lsdb.specs.declared.facts.Stored.{Stored}
use Rattle.sr_lsdb.specs.declared.touched.Touched.{Touched}
use Rattle.sr_lsdb.specs.declared.touched.Touched.TheVariants.{Lsp, Cost, Pair}
use Rattle.sr_lsdb.specs.Renewed.{said_of}
use Rattle.sr_lsdb.specs.Tables.{is_down, metric_at, stored_at}

-- what is said under an id, where something is stored there
abbrev pub said_at : List (LspId × Stored) → LspId → Option (Option Said)
said_at entries id = option_map said_of (stored_at entries id)

-- under the id that is named the same is said, for the link the same metric is set, or the pair is down in both or in
-- neither
abbrev pub IsAlikeAt : Touched → Facts → Facts → Type 0
IsAlikeAt (Lsp id) one other = said_at one.database id ≡ said_at other.database id
IsAlikeAt (Cost key) one other = metric_at one.costs key ≡ metric_at other.costs key
IsAlikeAt (Pair pair) one other = is_down one.downs pair ≡ is_down other.downs pair
