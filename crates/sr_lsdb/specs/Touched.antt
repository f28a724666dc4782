-- Names of what two copies of the facts may differ in.
use Rattle.std.specs.Prelude.{◌≡◌, Bool, false, List, [], ◌∷◌, ◌++◌}
use Rattle.std.specs.List.{list_any}
use Rattle.std.specs.BTreeMap.{is_at}
use Rattle.sr_model.specs.declared.name.LinkKey.{LinkKey}
use Rattle.sr_model.specs.declared.name.PairKey.{PairKey}
use Rattle.sr_model.specs.KeyOrder.{key_cmp}
use Rattle.sr_lsp.specs.declared.lsp.LspId.{LspId}
use Rattle.sr_lsdb.specs.declared.facts.Facts.{Facts}
use Rattle.sr_lsdb.specs.declared.touched.Touched.{Touched}
use Rattle.sr_lsdb.specs.declared.touched.Touched.TheVariants.{Lsp, Cost, Pair}
use Rattle.sr_lsdb.specs.Order.{id_cmp, pair_cmp}
use Rattle.sr_lsdb.specs.Tables.{AgreeBeyond, TakesOver, is_down, metric_at, stored_at}

-- whether an id is named
abbrev pub names_lsp : Touched → LspId → Bool
names_lsp (Lsp id) other = is_at (id_cmp id) other
names_lsp (Cost key) other = false
names_lsp (Pair pair) other = false

-- whether a link's metric is named
abbrev pub names_cost : Touched → LinkKey → Bool
names_cost (Lsp id) other = false
names_cost (Cost key) other = is_at (key_cmp key) other
names_cost (Pair pair) other = false

-- whether a pair is named
abbrev pub names_pair : Touched → PairKey → Bool
names_pair (Lsp id) other = false
names_pair (Cost key) other = false
names_pair (Pair pair) other = is_at (pair_cmp pair) other

-- the tables of two facts agree beyond what is named
pub record Agree (touched : List Touched) (one other : Facts) : Type 0 where
  pub database : AgreeBeyond (λ id. list_any (λ name. names_lsp name id) touched) (stored_at one.database)
      (stored_at other.database)
  pub costs : AgreeBeyond (λ key. list_any (λ name. names_cost name key) touched) (metric_at one.costs)
      (metric_at other.costs)
  pub downs : AgreeBeyond (λ pair. list_any (λ name. names_pair name pair) touched) (is_down one.downs)
      (is_down other.downs)

-- the tables of the new facts are those of the source at what is named, and the old ones elsewhere
pub record Follows (name : Touched) (source old new : Facts) : Type 0 where
  pub database : TakesOver (names_lsp name) (stored_at source.database) (stored_at old.database)
      (stored_at new.database)
  pub costs : TakesOver (names_cost name) (metric_at source.costs) (metric_at old.costs) (metric_at new.costs)
  pub downs : TakesOver (names_pair name) (is_down source.downs) (is_down old.downs) (is_down new.downs)

-- the last of the names
abbrev pub EndsIn : List Touched → Touched → Type 0
EndsIn touched name = (before : List Touched) × (touched ≡ before ++ name ∷ [])
