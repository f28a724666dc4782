-- Lists in order of a key: how often a key occurs in them, and the first that occurs twice.
use Rattle.std.proofs.Common.{◌≡◌, ◌≢◌, ℕ, zero, suc, ◌+◌, ◌<◌, ◌≤◌, ⊎_elim, Bool, true, false, cond, List, [], ◌∷◌, length, get_or, take, drop, refl, arith, ap, sym, ◌∙◌, subst, add-one}
use Rattle.std.specs.Prelude.{count_by}
use Rattle.std.specs.declared.cmp.Ordering.{Ordering}
use Rattle.std.specs.declared.cmp.Ordering.TheVariants.{Less, Equal, Greater}
use Rattle.std.specs.Ordering.{is_lt, is_eq, eq_by_cmp, ordering_reverse}
use Rattle.std.specs.Cmp.{IsTotalOrder}
use Rattle.std.specs.List.Sorted.{IsSortedByKey}
use Rattle.std.proofs.lemmas.Cmp.{tied_back, tied_itself}
use Rattle.std.proofs.lemmas.List.{take-append-drop, get_or-drop, get_or-take, length-drop, length-take-le, get_or_default}
use Rattle.std.proofs.lemmas.List.Sorted.{sorted_far, ranks_by}
use Rattle.std.proofs.lemmas.List.Sums.{sum_by-cons, sum_by-append, count_by_more_yes}
use Rattle.std.proofs.lemmas.Bool.{cases_eq}
use Rattle.sr_model.proofs.KeyOrderLemmas.{is_eq-true}

equal-from : (r : Ordering) → r ≢ Less → is_lt (ordering_reverse r) ≡ false → r ≡ Equal
equal-from Less n e = absurd (n refl)
equal-from Equal n e = refl
equal-from Greater n e = absurd (cc)

module _ {X K : Type 0} {R : K → K → Ordering} (o : IsTotalOrder R) (key : X → K) where
  -- how often the key q occurs
  abbrev pub times : K → List X → ℕ
  times q xs = count_by (λ (x : X). eq_by_cmp R q (key x)) xs

  -- the keys of the first n items ascend
  abbrev pub Up : List X → ℕ → Type 0
  Up xs n = (k : ℕ) (d : X) → k + 1 < n → R (key (get_or xs k d)) (key (get_or xs (k + 1) d)) ≡ Less

  up-far : (xs : List X) (n : ℕ) → Up xs n → (i j : ℕ) (d : X) → i < j → j < n → R (key (get_or xs i d)) (key (get_or xs j d)) ≡ Less
  up-far xs n up i zero d lt le = absurd (omega arith)
  up-far xs n up i (suc j) d lt le = rw (← add-one j) (⊎_elim
      (λ (e : i ≡ j). let P : ℕ → Type 0 = λ k. R (key (get_or xs k d)) (key (get_or xs (j + 1) d)) ≡ Less in subst P (sym e) (up j d (omega arith)))
      (λ (ne : i ≢ j). o.trans _ _ _ (up-far xs n up i j d (omega arith) (omega arith)) (up j d (omega arith)))
      (cases_eq i j))

  not_equal : (q a b : K) → eq_by_cmp R q a ≡ true → R a b ≡ Less → eq_by_cmp R q b ≡ false
  not_equal q a b e l = ap is_eq (o.congr q a b (is_eq-true (R q a) e) ∙ l)

  times-cons : (q : K) (x : X) (xs : List X) → times q (x ∷ xs) ≡ cond (eq_by_cmp R q (key x)) 1 0 + times q xs
  times-cons q x xs = sum_by-cons (λ (y : X). cond (eq_by_cmp R q (key y)) 1 0) x xs

  times-none : (q : K) (xs : List X) → ((i : ℕ) (d : X) → i < length xs → eq_by_cmp R q (key (get_or xs i d)) ≡ false) → times q xs ≡ 0
  times-none q [] h = refl
  times-none q (x ∷ xs) h =
      let here : eq_by_cmp R q (key x) ≡ false = h 0 x (omega arith) in
      let rest : times q xs ≡ 0 = times-none q xs (λ i d lt. h (suc i) d (omega arith)) in
      times-cons q x xs ∙ ap (λ b. cond b 1 0 + times q xs) here ∙ ap (λ n. 0 + n) rest

  times-one_by : (q : K) (x : X) (xs : List X) (b : Bool) → eq_by_cmp R q (key x) ≡ b → ((i : ℕ) (d : X) → i < length xs → R (key x) (key (get_or xs i d)) ≡ Less) → times q xs ≤ 1 → cond b 1 0 + times q xs ≤ 1
  times-one_by q x xs true e above one =
      let rest : times q xs ≡ 0 = times-none q xs (λ i d lt. not_equal q (key x) (key (get_or xs i d)) e (above i d lt)) in
      omega arith
  times-one_by q x xs false e above one = omega arith

  times-one : (q : K) (xs : List X) → ((i j : ℕ) (d : X) → i < j → j < length xs → R (key (get_or xs i d)) (key (get_or xs j d)) ≡ Less) → times q xs ≤ 1
  times-one q [] far = omega arith
  times-one q (x ∷ xs) far =
      rw (times-cons q x xs) (times-one_by q x xs (eq_by_cmp R q (key x)) refl (λ i d lt. far 0 (suc i) d (omega arith) (omega arith)) (times-one q xs (λ i j d lt le. far (suc i) (suc j) d (omega arith) (omega arith))))

  times-parts : (q : K) (n : ℕ) (xs : List X) → times q xs ≡ times q (take n xs) + times q (drop n xs)
  times-parts q n xs = ap (times q) (sym (take-append-drop n xs)) ∙ sum_by-append (λ (y : X). cond (eq_by_cmp R q (key y)) 1 0) (take n xs) (drop n xs)

  apart_by : (q a b : K) (c : Bool) → eq_by_cmp R q a ≡ c → R q b ≡ Less → is_lt (R a b) ≡ false → c ≡ false
  apart_by q a b true e low high =
      let same : R a b ≡ Less = sym (o.congr q a b (is_eq-true (R q a) e)) ∙ low in
      absurd (let bad : true ≡ false = ap is_lt (sym same) ∙ high in cc)
  apart_by q a b false e low high = refl

  -- in a list in order, a key below that at place i occurs before i alone
  module _ (xs : List X) (sorted : IsSortedByKey key R xs) (i : ℕ) (d : X) (within : i < length xs) where
    pub not_below : (j : ℕ) (e : X) → i ≤ j → j < length xs → is_lt (R (key (get_or xs j e)) (key (get_or xs i d))) ≡ false
    not_below j e le lt = rw (get_or_default xs i d e within) (sorted_far (λ x y. is_lt (R (key x) (key y))) (ranks_by o key) xs sorted i j e le lt)

    times-below : Up xs i → (q : K) → R q (key (get_or xs i d)) ≡ Less → times q xs ≤ 1
    times-below up q low =
        let later : times q (drop i xs) ≡ 0 = times-none q (drop i xs) (λ k e lt. rw (get_or-drop i xs k e) (apart_by q (key (get_or xs (i + k) e)) (key (get_or xs i d)) (eq_by_cmp R q (key (get_or xs (i + k) e))) refl low (not_below (i + k) e (omega arith) (omega (arith, length-drop i xs))))) in
        let before : times q (take i xs) ≤ 1 = times-one q (take i xs) (λ a b e lt le. let b_within : b < i = omega (arith, length-take-le i xs (omega arith)) in rw (get_or-take i xs a e (omega arith), get_or-take i xs b e b_within) (up-far xs i up a b e lt b_within)) in
        omega (arith, times-parts q i xs)

    times-two : (q : K) (j : ℕ) → j + 1 ≡ i → eq_by_cmp R q (key (get_or xs j d)) ≡ true → eq_by_cmp R q (key (get_or xs i d)) ≡ true → 2 ≤ times q xs
    times-two q j is e f =
        let one : times q (take (j + 1) xs) ≡ times q (take j xs) + 1 = count_by_more_yes (λ (x : X). eq_by_cmp R q (key x)) xs j d (omega arith) e in
        let two : times q (take (i + 1) xs) ≡ times q (take i xs) + 1 = count_by_more_yes (λ (x : X). eq_by_cmp R q (key x)) xs i d within f in
        let at : times q (take (j + 1) xs) ≡ times q (take i xs) = ap (λ n. times q (take n xs)) is in
        omega (arith, times-parts q (i + 1) xs)

    -- a place whose key is not above the one before has the same
    equal-before : (j : ℕ) → j + 1 ≡ i → R (key (get_or xs j d)) (key (get_or xs i d)) ≢ Less → R (key (get_or xs j d)) (key (get_or xs i d)) ≡ Equal
    equal-before j is differ =
        let back : is_lt (R (key (get_or xs i d)) (key (get_or xs j d))) ≡ false = sorted_far (λ x y. is_lt (R (key x) (key y))) (ranks_by o key) xs sorted j i d (omega arith) within in
        equal-from _ differ (ap is_lt (sym (o.antisymm (key (get_or xs i d)) (key (get_or xs j d)))) ∙ back)

    twice-here : (j : ℕ) → j + 1 ≡ i → R (key (get_or xs j d)) (key (get_or xs i d)) ≢ Less → 2 ≤ times (key (get_or xs i d)) xs
    twice-here j is differ =
        times-two (key (get_or xs i d)) j is (ap is_eq (tied_back o _ _ (equal-before j is differ))) (ap is_eq (tied_itself o _))

    -- the first such place holds the least key that occurs twice
    pub twice-at : Up xs i → (j : ℕ) → j + 1 ≡ i → R (key (get_or xs j d)) (key (get_or xs i d)) ≢ Less → (2 ≤ times (key (get_or xs i d)) xs) × ((q : K) → 2 ≤ times q xs → is_lt (R q (key (get_or xs i d))) ≡ false)
    twice-at up j is differ =
        (twice-here j is differ, λ q two. not_less q two (R q (key (get_or xs i d))) refl)
      where
        not_less : (q : K) → 2 ≤ times q xs → (r : Ordering) → R q (key (get_or xs i d)) ≡ r → is_lt r ≡ false
        not_less q two Less e = absurd (let low : times q xs ≤ 1 = times-below up q e in omega arith)
        not_less q two Equal e = refl
        not_less q two Greater e = refl

  pub once-each : (xs : List X) → Up xs (length xs) → (q : K) → times q xs ≤ 1
  once-each xs up q = times-one q xs (up-far xs (length xs) up)

  -- in a list in order where no key occurs twice, keys ascend
  pub up-from_once : (xs : List X) → IsSortedByKey key R xs → ((q : K) → 2 ≤ times q xs → ⊥) → Up xs (length xs)
  up-from_once xs sorted none k d lt = less (R (key (get_or xs k d)) (key (get_or xs (k + 1) d))) refl
    where
      less : (r : Ordering) → R (key (get_or xs k d)) (key (get_or xs (k + 1) d)) ≡ r → R (key (get_or xs k d)) (key (get_or xs (k + 1) d)) ≡ Less
      less Less e = e
      less Equal e = absurd (none (key (get_or xs (k + 1) d)) (twice-here xs sorted (k + 1) d lt k refl (λ l. let bad : Less ≡ Equal = sym l ∙ e in cc)))
      less Greater e = absurd (none (key (get_or xs (k + 1) d)) (twice-here xs sorted (k + 1) d lt k refl (λ l. let bad : Less ≡ Greater = sym l ∙ e in cc)))

  -- and each is below all later ones
  pub far-below : (xs : List X) → Up xs (length xs) → (i j : ℕ) (d : X) → i < j → j < length xs → R (key (get_or xs i d)) (key (get_or xs j d)) ≡ Less
  far-below xs up = up-far xs (length xs) up
