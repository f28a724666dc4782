-- The orders of the tables, as the program tests them, and what they are.
use Rattle.std.specs.Prelude.{◌≡◌, ◌<◌, ◌⊎◌, ◌↔◌}
use Rattle.std.specs.declared.cmp.Ordering.{Ordering}
use Rattle.std.specs.declared.cmp.Ordering.TheVariants.{Less, Equal}
use Rattle.sr_model.specs.declared.name.PairKey.{PairKey}
use Rattle.sr_model.specs.contracts.name.PairKeyOrd.TheImpl as pair_key
use Rattle.sr_model.specs.Key.{IdentLt, PairLt}
use Rattle.sr_lsp.specs.declared.lsp.LspId.{LspId}
use Rattle.sr_lsp.specs.contracts.lsp.LspIdOrd.TheImpl as lsp_id

-- what `cmp` of two LSP ids answers
abbrev pub id_cmp : LspId → LspId → Ordering
id_cmp = lsp_id.cmp-value.it

-- what `cmp` of two pairs answers
abbrev pub pair_cmp : PairKey → PairKey → Ordering
pair_cmp = pair_key.cmp-value.it

-- by the system, then the pseudonode, then the fragment
abbrev pub IdLt : LspId → LspId → Type 0
IdLt a b = (a.system < b.system) ⊎ ((a.system ≡ b.system) × PairLt a.pseudonode a.fragment b.pseudonode b.fragment)

-- by the lower end, then the higher end, then the identity
abbrev pub PairKeyLt : PairKey → PairKey → Type 0
PairKeyLt a b =
    (a.low < b.low) ⊎ ((a.low ≡ b.low) × ((a.high < b.high) ⊎ ((a.high ≡ b.high) × IdentLt a.ident b.ident)))

-- `cmp` of two ids answers that the first is less exactly where it comes before the second
abbrev pub IdsAreOrdered : Type 0
IdsAreOrdered = (a b : LspId) → (id_cmp a b ≡ Less) ↔ IdLt a b

-- and that they are equal exactly where they are the same
abbrev pub IdsAreTold : Type 0
IdsAreTold = (a b : LspId) → (id_cmp a b ≡ Equal) ↔ (a ≡ b)

-- `cmp` of two pairs answers that the first is less exactly where it comes before the second
abbrev pub PairsAreOrdered : Type 0
PairsAreOrdered = (a b : PairKey) → (pair_cmp a b ≡ Less) ↔ PairKeyLt a b

-- and that they are equal exactly where they are the same
abbrev pub PairsAreTold : Type 0
PairsAreTold = (a b : PairKey) → (pair_cmp a b ≡ Equal) ↔ (a ≡ b)
