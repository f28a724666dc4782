-- The run of elements with a key, in a list that is sorted by key.
use Rattle.std.proofs.Common.{◌≡◌, ℕ, zero, suc, ◌+◌, ◌-◌, ◌<◌, ◌≤◌, Bool, true, false, cond, List, [], ◌∷◌, length, length-drop, get_or, take, drop, filter, ltb, refl, arith, ap, true≢false, subst, sym, ◌∙◌}
use Rattle.std.specs.Cmp.{IsTotalOrder}
use Rattle.std.specs.List.Sorted.{IsPartitionPoint, IsPartitionedBy, IsSortedBy}
use Rattle.std.specs.Ordering.{eq_by_cmp, is_eq, is_gt, is_le, is_lt, ordering_index, ordering_reverse}
use Rattle.std.specs.declared.cmp.Ordering.{Ordering}
use Rattle.std.specs.declared.cmp.Ordering.TheVariants.{Less, Equal, Greater}
use Rattle.std.proofs.lemmas.Bool.{false_from_ne_true}
use Rattle.std.proofs.lemmas.List.{get_or-drop, take_all}
use Rattle.std.proofs.lemmas.List.Sorted.{IsPartitionedBy-ltb, searchable_from_sorted}

lt-index : (o : Ordering) → is_lt o ≡ ltb (ordering_index o) 1
lt-index Less = refl
lt-index Equal = refl
lt-index Greater = refl

le-index : (o : Ordering) → is_le o ≡ ltb (ordering_index o) 2
le-index Less = refl
le-index Equal = refl
le-index Greater = refl

before-is : (o : Ordering) → is_lt o ≡ true → is_eq (ordering_reverse o) ≡ false
before-is Less e = refl
before-is Equal e = absurd (cc)
before-is Greater e = refl

within-is : (o : Ordering) → is_lt o ≡ false → is_le o ≡ true → is_eq (ordering_reverse o) ≡ true
within-is Less e f = absurd (cc)
within-is Equal e f = refl
within-is Greater e f = absurd (cc)

after-is : (o : Ordering) → is_le o ≡ false → is_eq (ordering_reverse o) ≡ false
after-is Less e = absurd (cc)
after-is Equal e = absurd (cc)
after-is Greater e = refl

pub past-is : (o : Ordering) → is_gt o ≡ true → is_le o ≡ false
past-is Less e = absurd (cc)
past-is Equal e = absurd (cc)
past-is Greater e = refl

-- what a partition point asks, of the tests by which a run begins and ends
pub partitioned-lt : {K : Type 0} {R : K → K → Ordering} (o : IsTotalOrder R) → {X : Type 0} (key : X → K) (xs : List X) (x : K) → IsSortedBy (λ a b. is_lt (R (key a) (key b))) xs → IsPartitionedBy (λ y. is_lt (R (key y) x)) xs
partitioned-lt {K} {R} o key xs x up i j d le lt e =
    lt-index (R (key (get_or xs i d)) x)
    ∙ IsPartitionedBy-ltb (λ y. ordering_index (R (key y) x)) xs 1 (searchable_from_sorted o key xs x up) i j d le lt (sym (lt-index (R (key (get_or xs j d)) x)) ∙ e)

pub partitioned-le : {K : Type 0} {R : K → K → Ordering} (o : IsTotalOrder R) → {X : Type 0} (key : X → K) (xs : List X) (x : K) → IsSortedBy (λ a b. is_lt (R (key a) (key b))) xs → IsPartitionedBy (λ y. is_le (R (key y) x)) xs
partitioned-le {K} {R} o key xs x up i j d le lt e =
    le-index (R (key (get_or xs i d)) x)
    ∙ IsPartitionedBy-ltb (λ y. ordering_index (R (key y) x)) xs 2 (searchable_from_sorted o key xs x up) i j d le lt (sym (le-index (R (key (get_or xs j d)) x)) ∙ e)

drop-empty : {X : Type 0} (n : ℕ) → drop {A = X} n [] ≡ []
drop-empty zero = refl
drop-empty (suc n) = refl

take-empty : {X : Type 0} (n : ℕ) → take {A = X} n [] ≡ []
take-empty zero = refl
take-empty (suc n) = refl

-- what passes a test stands together
pub run : {X : Type 0} (f : X → Bool) (xs : List X) (low n : ℕ) → ((k : ℕ) (d : X) → k < low → k < length xs → f (get_or xs k d) ≡ false) → ((k : ℕ) (d : X) → low ≤ k → k < low + n → k < length xs → f (get_or xs k d) ≡ true) → ((k : ℕ) (d : X) → low + n ≤ k → k < length xs → f (get_or xs k d) ≡ false) → take n (drop low xs) ≡ filter f xs
run f [] low n before within after = ap (take n) (drop-empty low) ∙ take-empty n
run f (x ∷ xs) (suc low) n before within after =
    run f xs low n (λ k d a b. before (suc k) d (omega arith) (omega arith)) (λ k d a b c. within (suc k) d (omega arith) (omega arith) (omega arith)) (λ k d a b. after (suc k) d (omega arith) (omega arith))
    ∙ ap (λ b. cond b (x ∷ filter f xs) (filter f xs)) (sym (before 0 x (omega arith) (omega arith)))
run f (x ∷ xs) zero (suc n) before within after =
    ap (λ r. x ∷ r) (run f xs zero n (λ k d a b. absurd (omega arith)) (λ k d a b c. within (suc k) d (omega arith) (omega arith) (omega arith)) (λ k d a b. after (suc k) d (omega arith) (omega arith)))
    ∙ ap (λ b. cond b (x ∷ filter f xs) (filter f xs)) (sym (within 0 x (omega arith) (omega arith) (omega arith)))
run f (x ∷ xs) zero zero before within after =
    run f xs zero zero (λ k d a b. absurd (omega arith)) (λ k d a b c. absurd (omega arith)) (λ k d a b. after (suc k) d (omega arith) (omega arith))
    ∙ ap (λ b. cond b (x ∷ filter f xs) (filter f xs)) (sym (after 0 x (omega arith) (omega arith)))

-- the rest of a list, as a slice has it
rest-is : {X : Type 0} (xs : List X) (low : ℕ) → take (length xs - low) (drop low xs) ≡ drop low xs
rest-is xs low = take_all (length xs - low) (drop low xs) (omega (arith, length-drop low xs))

-- the rest of a list is parted by a test that parts the list
pub partitioned-rest : {X : Type 0} (p : X → Bool) (xs : List X) (low : ℕ) → IsPartitionedBy p xs → IsPartitionedBy p (take (length xs - low) (drop low xs))
partitioned-rest {X} p xs low parted =
    subst (λ (r : List X). IsPartitionedBy p r) (sym (rest-is xs low))
    (λ i j d le lt e. ap p (get_or-drop low xs i d) ∙ parted (low + i) (low + j) d (omega arith) (omega (arith, length-drop low xs)) (sym (ap p (get_or-drop low xs j d)) ∙ e))

-- from the first that isn't below a key, up to the first above it, stands the run of the key
pub run-of : {K : Type 0} {R : K → K → Ordering} (o : IsTotalOrder R) → {X : Type 0} (key : X → K) (xs : List X) (x : K) (low n : ℕ)
    → IsPartitionPoint (λ y. is_lt (R (key y) x) ≡ true) (λ y. is_lt (R (key y) x) ≡ false) xs low
    → IsPartitionPoint (λ y. is_le (R (key y) x) ≡ true) (λ y. is_le (R (key y) x) ≡ false) (take (length xs - low) (drop low xs)) n
    → take n (take (length xs - low) (drop low xs)) ≡ filter (λ y. eq_by_cmp R x (key y)) xs
run-of {K} {R} o {X} key xs x low n from to =
    ap (take n) (rest-is xs low)
    ∙ run (λ y. eq_by_cmp R x (key y)) xs low n
    (λ k d less _. turned d k ∙ before-is (R (key (get_or xs k d)) x) (from.0 k d (omega arith) less))
    (λ k d at below within. turned d k ∙ within-is (R (key (get_or xs k d)) x) (from.1 k d at within) (shifted d k at ∙ to.0 (k - low) d (omega arith) (omega arith)))
    (λ k d past within. turned d k ∙ after-is (R (key (get_or xs k d)) x) (shifted d k (omega arith) ∙ to.1 (k - low) d (omega arith) (omega (arith, length-drop low xs, ap length (rest-is xs low)))))
  where
    turned : (d : X) (k : ℕ) → is_eq (R x (key (get_or xs k d))) ≡ is_eq (ordering_reverse (R (key (get_or xs k d)) x))
    turned d k = ap is_eq (o.antisymm x (key (get_or xs k d)))

    shifted : (d : X) (k : ℕ) → low ≤ k → is_le (R (key (get_or xs k d)) x) ≡ is_le (R (key (get_or (take (length xs - low) (drop low xs)) (k - low) d)) x)
    shifted d k at =
        ap (λ (m : ℕ). is_le (R (key (get_or xs m d)) x)) (let e : k ≡ low + (k - low) = omega arith in e)
        ∙ ap (λ (y : X). is_le (R (key y) x)) (sym (get_or-drop low xs (k - low) d))
        ∙ ap (λ (r : List X). is_le (R (key (get_or r (k - low) d)) x)) (sym (rest-is xs low))

-- where the first that isn't below a key is above it, or there is none, there is no run of the key
pub no-run-of : {K : Type 0} {R : K → K → Ordering} (o : IsTotalOrder R) → {X : Type 0} (key : X → K) (xs : List X) (x : K) (low : ℕ)
    → IsSortedBy (λ a b. is_lt (R (key a) (key b))) xs
    → IsPartitionPoint (λ y. is_lt (R (key y) x) ≡ true) (λ y. is_lt (R (key y) x) ≡ false) xs low
    → ((d : X) → low < length xs → is_le (R (key (get_or xs low d)) x) ≡ false)
    → [] ≡ filter (λ y. eq_by_cmp R x (key y)) xs
no-run-of {K} {R} o {X} key xs x low up from past =
    run (λ y. eq_by_cmp R x (key y)) xs low 0
    (λ k d less _. turned d k ∙ before-is (R (key (get_or xs k d)) x) (from.0 k d (omega arith) less))
    (λ k d at below within. absurd (omega arith))
    (λ k d at within. turned d k ∙ after-is (R (key (get_or xs k d)) x)
    (false_from_ne_true (is_le (R (key (get_or xs k d)) x)) (λ e. true≢false (sym (partitioned-le o key xs x up low k d (omega arith) within e) ∙ past d (omega arith)))))
  where
    turned : (d : X) (k : ℕ) → is_eq (R x (key (get_or xs k d))) ≡ is_eq (ordering_reverse (R (key (get_or xs k d)) x))
    turned d k = ap is_eq (o.antisymm x (key (get_or xs k d)))
