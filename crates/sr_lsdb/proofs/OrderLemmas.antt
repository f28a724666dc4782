-- The orders of the tables are total, they tell all keys apart, and what they are.
use Rattle.std.proofs.Common.{◌≡◌, ℕ, ◌<◌, ◌⊎◌, ⊎_elim, inl, inr, refl, arith, ap, sym, ◌∙◌}
use Rattle.std.specs.Prelude.{◌↔◌}
use Rattle.std.specs.declared.cmp.Ordering.{Ordering}
use Rattle.std.specs.declared.cmp.Ordering.TheVariants.{Less, Equal, Greater}
use Rattle.std.specs.Cmp.{IsTotalOrder}
use Rattle.std.specs.Ordering.{MatchOrdering, nat_cmp, ordering_then}
use Rattle.std.proofs.lemmas.Cmp.{ranked, tied_itself}
use Rattle.std.proofs.lemmas.Map.Lookups.{CmpEqualImpliesEq, exact_pairs, exact_unsigned}
use Rattle.sr_model.specs.declared.name.LinkKey.{LinkKey}
use Rattle.sr_model.specs.declared.name.PairKey.{PairKey}
use Rattle.sr_model.specs.Key.{PairLt}
use Rattle.sr_model.specs.KeyOrder.{key_cmp}
use Rattle.sr_model.specs.contracts.name.PairKeyOrd.TheImpl.Laws as pair_laws
use Rattle.sr_model.proofs.KeyOrderLemmas.{KeyLt-from_cmp, key-from_cmp, key_cmp-lt}
use Rattle.sr_lsp.specs.declared.lsp.LspId.{LspId}
use Rattle.sr_lsp.specs.contracts.lsp.LspIdOrd.TheImpl.Laws as id_laws
use Rattle.sr_lsdb.specs.Order.{IdsAreOrdered, IdsAreTold, PairsAreOrdered, PairsAreTold, id_cmp, pair_cmp}

pub id_total : IsTotalOrder id_cmp
id_total = id_laws.total-law

pub pair_total : IsTotalOrder pair_cmp
pair_total = pair_laws.total-law

abbrev numbers : LspId → ℕ × (ℕ × ℕ)
numbers id = (id.system, (id.pseudonode, id.fragment))

abbrev id_of : ℕ × (ℕ × ℕ) → LspId
id_of n = record { system = n.0; pseudonode = n.1.0; fragment = n.1.1 }

pub id_exact : CmpEqualImpliesEq id_cmp
id_exact a b h = ap id_of (exact_pairs nat_cmp (λ (x y : ℕ × ℕ). ordering_then (nat_cmp x.0 y.0) (nat_cmp x.1 y.1)) exact_unsigned (exact_pairs nat_cmp nat_cmp exact_unsigned exact_unsigned) (numbers a) (numbers b) h)

pub key_exact : CmpEqualImpliesEq key_cmp
key_exact = key-from_cmp

abbrev key_of : PairKey → LinkKey
key_of pair = record { from = pair.low; to = pair.high; ident = pair.ident }

abbrev pair_of : LinkKey → PairKey
pair_of key = record { low = key.from; high = key.to; ident = key.ident }

pub pair_exact : CmpEqualImpliesEq pair_cmp
pair_exact a b h = ap pair_of (key-from_cmp (key_of a) (key_of b) h)

nat_cmp-less : (x y : ℕ) → (nat_cmp x y ≡ Less) ↔ (x < y)
nat_cmp-less x y = by (nat_cmp x y) (ranked x y (nat_cmp x y) refl)
  where
    by : (r : Ordering) → MatchOrdering r (x < y) (x ≡ y) (y < x) → (r ≡ Less) ↔ (x < y)
    by Less lt = (λ _. lt, λ _. refl)
    by Equal same = (λ h. absurd (cc), λ lt. absurd (omega arith))
    by Greater gt = (λ h. absurd (cc), λ lt. absurd (omega arith))

-- by two numbers, then by what comes before as P says
then-less : (x y : ℕ) (rest : Ordering) (P : Type 0) → ((rest ≡ Less) ↔ P) → (ordering_then (nat_cmp x y) rest ≡ Less) ↔ ((x < y) ⊎ ((x ≡ y) × P))
then-less x y rest P last = by (nat_cmp x y) (ranked x y (nat_cmp x y) refl)
  where
    by : (r : Ordering) → MatchOrdering r (x < y) (x ≡ y) (y < x) → (ordering_then r rest ≡ Less) ↔ ((x < y) ⊎ ((x ≡ y) × P))
    by Less lt = (λ _. inl lt, λ _. refl)
    by Equal same = (λ h. inr (same, last.0 h), λ before. ⊎_elim (λ lt. absurd (omega arith)) (λ tie. last.1 tie.1) before)
    by Greater gt = (λ h. absurd (cc), λ before. ⊎_elim (λ lt. absurd (omega arith)) (λ tie. absurd (let same : x ≡ y = tie.0 in omega arith)) before)

pub ids_ordered : IdsAreOrdered
ids_ordered a b =
    then-less a.system b.system (ordering_then (nat_cmp a.pseudonode b.pseudonode) (nat_cmp a.fragment b.fragment)) (PairLt a.pseudonode a.fragment b.pseudonode b.fragment)
    (then-less a.pseudonode b.pseudonode (nat_cmp a.fragment b.fragment) (a.fragment < b.fragment) (nat_cmp-less a.fragment b.fragment))

pub ids_told : IdsAreTold
ids_told a b = (id_exact a b, λ same. ap (id_cmp a) (sym same) ∙ tied_itself id_total a)

pub pairs_ordered : PairsAreOrdered
pairs_ordered a b = (KeyLt-from_cmp (key_of a) (key_of b), key_cmp-lt (key_of a) (key_of b))

pub pairs_told : PairsAreTold
pairs_told a b = (pair_exact a b, λ same. ap (pair_cmp a) (sym same) ∙ tied_itself pair_total a)
