-- Numbers in order, each once.
use Rattle.std.proofs.Common.{◌≡◌, ℕ, ◌<◌, ◌≤◌, ◌||◌, Bool, true, false, cond, ltb, eqb, List, [], ◌∷◌, refl, arith, ap, sym, ◌∙◌}
use Rattle.std.specs.Cmp.{nat_cmp_is}
use Rattle.std.specs.List.{list_any, AllByRecursion}
use Rattle.std.specs.List.Sorted.{IsStrictlySortedBy}
use Rattle.std.specs.Ordering.{nat_cmp}
use Rattle.std.specs.declared.cmp.Ordering.TheVariants.{Less}
use Rattle.std.proofs.lemmas.Bool.{ltb-true, ltb-false, eqb-true, eqb-false}
use Rattle.std.proofs.lemmas.Cmp.{nat_cmp_total}
use Rattle.sr_domain.specs.Groups.{same_number}
use Rattle.sr_domain.specs.GroupTables.{put, ascending}

-- what a test finds
put-has : (v n : ℕ) (xs : List ℕ) → list_any (same_number v) (put n xs) ≡ (same_number v n || list_any (same_number v) xs)
put-has v n [] = refl
put-has v n (x ∷ xs) = by (put-has v n xs) (ltb n x) (eqb n x) refl
  where
    twice : (a b : Bool) → (a || b) ≡ (a || (a || b))
    twice true b = refl
    twice false b = refl

    moved : (a b c r : Bool) → r ≡ (b || c) → (a || r) ≡ (b || (a || c))
    moved true true c r e = refl
    moved true false c r e = refl
    moved false b c r e = e

    by : list_any (same_number v) (put n xs) ≡ (same_number v n || list_any (same_number v) xs) → (less same : Bool) → eqb n x ≡ same → list_any (same_number v) (cond less (n ∷ x ∷ xs) (cond same (x ∷ xs) (x ∷ put n xs))) ≡ (same_number v n || (same_number v x || list_any (same_number v) xs))
    by rest true same e = refl
    by rest false true e = twice (same_number v x) (list_any (same_number v) xs) ∙ ap (λ m. same_number v m || (same_number v x || list_any (same_number v) xs)) (sym (eqb-true n x e))
    by rest false false e = moved (same_number v x) (same_number v n) (list_any (same_number v) xs) (list_any (same_number v) (put n xs)) rest

put-all : (P : ℕ → Type 0) (n : ℕ) (xs : List ℕ) → P n → AllByRecursion P xs → AllByRecursion P (put n xs)
put-all P n [] now all = (now, tt)
put-all P n (x ∷ xs) now all = by (put-all P n xs now all.1) (ltb n x) (eqb n x)
  where
    by : AllByRecursion P (put n xs) → (less same : Bool) → AllByRecursion P (cond less (n ∷ x ∷ xs) (cond same (x ∷ xs) (x ∷ put n xs)))
    by rest true same = (now, all)
    by rest false true = all
    by rest false false = (all.0, rest)

all-above : (n x : ℕ) (xs : List ℕ) → n < x → AllByRecursion (λ y. nat_cmp x y ≡ Less) xs → AllByRecursion (λ y. nat_cmp n y ≡ Less) xs
all-above n x [] lt all = tt
all-above n x (y ∷ ys) lt all = (nat_cmp_total.trans n x y (sym (nat_cmp_is n x Less lt)) all.0, all-above n x ys lt all.1)

put-rises : (n : ℕ) (xs : List ℕ) → IsStrictlySortedBy nat_cmp xs → IsStrictlySortedBy nat_cmp (put n xs)
unfolding IsStrictlySortedBy
put-rises n [] up = (tt, tt)
put-rises n (x ∷ xs) up = by (put-rises n xs up.1) (ltb n x) (eqb n x) refl refl
  where
    by : IsStrictlySortedBy nat_cmp (put n xs) → (less same : Bool) → ltb n x ≡ less → eqb n x ≡ same → IsStrictlySortedBy nat_cmp (cond less (n ∷ x ∷ xs) (cond same (x ∷ xs) (x ∷ put n xs)))
    by rest true same e f = ((sym (nat_cmp_is n x Less (ltb-true n x e)), all-above n x xs (ltb-true n x e) up.0), up)
    by rest false true e f = up
    by rest false false e f =
        let apart : n ≡ x → ⊥ = eqb-false n x f in
        let no_less : x ≤ n = ltb-false n x e in
        (put-all (λ y. nat_cmp x y ≡ Less) n xs (sym (nat_cmp_is x n Less (omega arith))) up.0, rest)

pub ascending-has : (v : ℕ) (ns : List ℕ) → list_any (same_number v) (ascending ns) ≡ list_any (same_number v) ns
ascending-has v [] = refl
ascending-has v (n ∷ ns) = put-has v n (ascending ns) ∙ ap (λ b. same_number v n || b) (ascending-has v ns)

pub ascending-rises : (ns : List ℕ) → IsStrictlySortedBy nat_cmp (ascending ns)
unfolding IsStrictlySortedBy
ascending-rises [] = tt
ascending-rises (n ∷ ns) = put-rises n (ascending ns) (ascending-rises ns)
