-- The two ways to say that two links are of one pair.
use Rattle.std.proofs.Common.{◌≡◌, ◌≢◌, ⊎_elim, inl, inr, Bool, true, false, refl, arith, ap, sym, ◌∙◌}
use Rattle.std.specs.Prelude.{nat_le, if◌then◌else◌}
use Rattle.std.proofs.lemmas.Bool.Decides.{nat_tests}
use Rattle.sr_model.specs.declared.name.Ident.{Ident}
use Rattle.sr_model.specs.declared.name.LinkKey.{LinkKey}
use Rattle.sr_model.specs.declared.name.PairKey.{PairKey}
use Rattle.sr_model.specs.Key.{mirror, turned, pair_of, IsSamePair}
use Rattle.sr_laws.proofs.Keys.{turned_twice}
use Rattle.sr_model.proofs.KeyOrderLemmas.{key-parts}

-- the pair of a link, told whether its lower end comes first
abbrev pair_when : Bool → LinkKey → PairKey
pair_when low key = if low then record { low = key.from; high = key.to; ident = key.ident } else record { low = key.to; high = key.from; ident = turned key.ident }

-- two opposite links between two nodes have one pair
pair-turned : (key : LinkKey) → key.from ≢ key.to → pair_of (mirror key) ≡ pair_of key
pair-turned key differ = by (nat_le key.to key.from) (nat_le key.from key.to) refl refl
  where
    by : (a b : Bool) → nat_le key.to key.from ≡ a → nat_le key.from key.to ≡ b → pair_when a (mirror key) ≡ pair_when b key
    by true true e f = absurd (differ (grind (arith, nat_tests)))
    by true false e f = refl
    by false true e f = ap (λ (i : Ident). let p : PairKey = record { low = key.from; high = key.to; ident = i } in p) (turned_twice key.ident)
    by false false e f = absurd (differ (grind (arith, nat_tests)))

pub same-pair : (a b : LinkKey) → b.from ≢ b.to → IsSamePair a b → pair_of a ≡ pair_of b
same-pair a b differ same = ⊎_elim (λ (e : a ≡ b). ap pair_of e) (λ (e : a ≡ mirror b). ap pair_of e ∙ pair-turned b differ) same

pub pair-same : (a b : LinkKey) → pair_of a ≡ pair_of b → IsSamePair a b
pair-same a b = by (nat_le a.from a.to) (nat_le b.from b.to)
  where
    by : (p q : Bool) → pair_when p a ≡ pair_when q b → IsSamePair a b
    by true true e = inl (key-parts a b (ap (λ r. r.low) e) (ap (λ r. r.high) e) (ap (λ r. r.ident) e))
    by true false e = inr (key-parts a (mirror b) (ap (λ r. r.low) e) (ap (λ r. r.high) e) (ap (λ r. r.ident) e))
    by false true e = inr (key-parts a (mirror b) (ap (λ r. r.high) e) (ap (λ r. r.low) e) (sym (turned_twice a.ident) ∙ ap (λ r. turned r.ident) e))
    by false false e = inl (key-parts a b (ap (λ r. r.high) e) (ap (λ r. r.low) e) (sym (turned_twice a.ident) ∙ ap (λ r. turned r.ident) e ∙ turned_twice b.ident))

pub pair-agrees : (a b : LinkKey) → a.from ≢ a.to → b.from ≢ b.to → (IsSamePair a b → pair_of a ≡ pair_of b) × (pair_of a ≡ pair_of b → IsSamePair a b)
pair-agrees a b _ differ = (same-pair a b differ, pair-same a b)
