-- The tables of the facts as functions of their keys, and how one of them takes over a place of another.
use Rattle.std.specs.Prelude.{◌≡◌, ℕ, Bool, false, if◌then◌else◌, List, Option}
use Rattle.std.specs.List.{list_any}
use Rattle.std.specs.BTreeMap.{is_at}
use Rattle.std.specs.Map.{lookup}
use Rattle.sr_model.specs.declared.name.LinkKey.{LinkKey}
use Rattle.sr_model.specs.declared.name.PairKey.{PairKey}
use Rattle.sr_model.specs.KeyOrder.{key_cmp}
use Rattle.sr_lsp.specs.declared.lsp.LspId.{LspId}
use Rattle.sr_lsdb.specs.declared.facts.Stored.{Stored}
use Rattle.sr_lsdb.specs.Order.{id_cmp, pair_cmp}

-- what a database has under an id
abbrev pub stored_at : List (LspId × Stored) → LspId → Option Stored
stored_at entries id = lookup (is_at (id_cmp id)) entries

-- the metric that is set for a link
abbrev pub metric_at : List (LinkKey × ℕ) → LinkKey → Option ℕ
metric_at metrics key = lookup (is_at (key_cmp key)) metrics

-- whether a pair is among those that are down
abbrev pub is_down : List PairKey → PairKey → Bool
is_down pairs pair = list_any (is_at (pair_cmp pair)) pairs

-- two tables answer the same at every key that the test leaves out
abbrev pub AgreeBeyond : {K A : Type 0} → (K → Bool) → (K → A) → (K → A) → Type 0
AgreeBeyond {K} {A} test one other = (key : K) → test key ≡ false → one key ≡ other key

-- the new table answers as the source at the keys of the test, and as the old one elsewhere
abbrev pub TakesOver : {K A : Type 0} → (K → Bool) → (K → A) → (K → A) → (K → A) → Type 0
TakesOver {K} {A} test source old new = (key : K) → new key ≡ if test key then source key else old key
