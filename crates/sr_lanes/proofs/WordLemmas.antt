-- What the words of a set tell.
use Rattle.std.proofs.Common.{◌≡◌, ◌≢◌, ℕ, zero, suc, ◌+◌, ◌-◌, ◌*◌, ◌/◌, ◌%◌, ◌^◌, ◌<◌, min, max, Bool, true, false, not, ◌&&◌, ◌||◌, nat_eq, List, [], ◌∷◌, length, get_or, set, bit_and, bit_or, refl, ap, sym, subst, ◌∙◌, inl, inr, arith}
use Rattle.std.specs.Int.{bit_at, trailing_zeros}
use Rattle.std.proofs.lemmas.Bool.{cases_eq, cases_lt, eqb-false, eq-eqb, ne_eqb}
use Rattle.std.proofs.lemmas.Bool.Decides.{nat_tests}
use Rattle.std.proofs.lemmas.Grind.{get_or-set_at}
use Rattle.std.proofs.lemmas.List.{get_or-set_other, get_or_past, length-set}
use Rattle.std.proofs.Math.Pow.{pow-lt}
use Rattle.std.proofs.lemmas.Nat.{or_lt, le_or_l, le_or_r, pow_pos}
use Rattle.std.proofs.lemmas.Nat.Bits.{bit_at_and, bit_at_or, bit_at_not, bit_at-lt, bit_at_set_same, bit_at_set_other, bit_at_clear_same, bit_at_clear_other, bit_at-zero, bit_at-trailing_zeros, same_from_bits_below, shr_and_one, and_pow}
use mir.Syntax.{w64}
use Rattle.sr_lanes.specs.Words.{AreWords}

-- the words have a one for the node
abbrev pub tells : List ℕ → ℕ → Bool
tells words v = nat_eq (bit_at (get_or words (v / 64) 0) (v % 64)) 1

both : (a b : ℕ) → a < 2 → b < 2 → nat_eq (min a b) 1 ≡ (nat_eq a 1 && nat_eq b 1)
both a b small less = grind (arith, nat_tests)

-- the bits of two words that are in both
pub told-both : (a b i : ℕ) → nat_eq (bit_at (bit_and a b) i) 1 ≡ (nat_eq (bit_at a i) 1 && nat_eq (bit_at b i) 1)
told-both a b i = rw (bit_at_and a b i) (both (bit_at a i) (bit_at b i) (bit_at-lt a i) (bit_at-lt b i))

either : (a b : ℕ) → a < 2 → b < 2 → nat_eq (max a b) 1 ≡ (nat_eq a 1 || nat_eq b 1)
either a b small less = grind (arith, nat_tests)

opposite : (a : ℕ) → a < 2 → nat_eq (1 - a) 1 ≡ not (nat_eq a 1)
opposite a small = grind (arith, nat_tests)

-- four words that are made of two sets, word by word
abbrev pub four_of : (ℕ → ℕ → ℕ) → List ℕ → List ℕ → List ℕ
four_of f xs ys = f (get_or xs 0 0) (get_or ys 0 0) ∷ f (get_or xs 1 0) (get_or ys 1 0) ∷ f (get_or xs 2 0) (get_or ys 2 0) ∷ f (get_or xs 3 0) (get_or ys 3 0) ∷ []

of_each : (f : ℕ → ℕ → ℕ) (xs ys : List ℕ) (k : ℕ) → length xs ≡ 4 → length ys ≡ 4 → f 0 0 ≡ 0 → get_or (four_of f xs ys) k 0 ≡ f (get_or xs k 0) (get_or ys k 0)
of_each f xs ys zero x4 y4 none = refl
of_each f xs ys (suc zero) x4 y4 none = refl
of_each f xs ys (suc (suc zero)) x4 y4 none = refl
of_each f xs ys (suc (suc (suc zero))) x4 y4 none = refl
of_each f xs ys (suc (suc (suc (suc k)))) x4 y4 none =
    let x0 = get_or_past xs (suc (suc (suc (suc k)))) 0 (omega (arith, x4)) in
    let y0 = get_or_past ys (suc (suc (suc (suc k)))) 0 (omega (arith, y4)) in
    rw (x0, y0, none) refl

pub tells-and : (xs ys : List ℕ) (v : ℕ) → AreWords xs → AreWords ys → tells (four_of bit_and xs ys) v ≡ (tells xs v && tells ys v)
tells-and xs ys v x y = rw (of_each bit_and xs ys (v / 64) x.four y.four refl) (told-both (get_or xs (v / 64) 0) (get_or ys (v / 64) 0) (v % 64))

pub tells-or : (xs ys : List ℕ) (v : ℕ) → AreWords xs → AreWords ys → tells (four_of bit_or xs ys) v ≡ (tells xs v || tells ys v)
tells-or xs ys v x y =
    let a = get_or xs (v / 64) 0 in
    let b = get_or ys (v / 64) 0 in
    rw (of_each bit_or xs ys (v / 64) x.four y.four refl, bit_at_or a b (v % 64)) (either (bit_at a (v % 64)) (bit_at b (v % 64)) (bit_at-lt a (v % 64)) (bit_at-lt b (v % 64)))

abbrev pub and_not_of : ℕ → ℕ → ℕ
and_not_of x y = bit_and x (18446744073709551615 - y)

pub tells-and_not : (xs ys : List ℕ) (v : ℕ) → AreWords xs → AreWords ys → tells (four_of and_not_of xs ys) v ≡ (tells xs v && not (tells ys v))
tells-and_not xs ys v x y =
    let i = v % 64 in
    let a = get_or xs (v / 64) 0 in
    let b = get_or ys (v / 64) 0 in
    let lt : i < 64 = omega arith in
    let turned = bit_at_not w64 b i (y.fits (v / 64)) lt in
    rw (of_each and_not_of xs ys (v / 64) x.four y.four refl, bit_at_and a (18446744073709551615 - b) i, turned)
    (both (bit_at a i) (1 - bit_at b i) (bit_at-lt a i) (omega arith) ∙ ap (λ (t : Bool). nat_eq (bit_at a i) 1 && t) (opposite (bit_at b i) (bit_at-lt b i)))

pub words-or : (xs ys : List ℕ) → AreWords xs → AreWords ys → AreWords (four_of bit_or xs ys)
words-or xs ys x y = record {
  four = refl;
  fits = λ k. rw (of_each bit_or xs ys k x.four y.four refl) (or_lt 64 (get_or xs k 0) (get_or ys k 0) (x.fits k) (y.fits k));
}

pub tells-has : (xs : List ℕ) (v : ℕ) → nat_eq (bit_and (get_or xs (v / 64) 0 / 2 ^ (v % 64)) 1) 1 ≡ tells xs v
tells-has xs v = rw (shr_and_one (get_or xs (v / 64) 0) (v % 64)) refl

-- a bit at the place of a one is not 0
of_product : (a p : ℕ) → a < 2 → 0 < p → not (nat_eq (a * p) 0) ≡ nat_eq a 1
of_product zero p small some = grind (arith, nat_tests)
of_product (suc zero) p small some = grind (arith, nat_tests)
of_product (suc (suc a)) p small some = absurd (omega arith)

pub tells-masked : (xs : List ℕ) (v : ℕ) → not (nat_eq (bit_and (get_or xs (v / 64) 0) (1 * 2 ^ (v % 64) % 18446744073709551616)) 0) ≡ tells xs v
tells-masked xs v =
    let place = v % 64 in
    let word = get_or xs (v / 64) 0 in
    let below = pow-lt {i = place} {j = 64} (omega arith) in
    let whole : 1 * 2 ^ place % 18446744073709551616 ≡ 2 ^ place = omega (arith, below) in
    rw (whole, and_pow word place) (of_product (bit_at word place) (2 ^ place) (bit_at-lt word place) (pow_pos place))

pub tells-none : (xs : List ℕ) (v : ℕ) → get_or xs (v / 64) 0 ≡ 0 → tells xs v ≡ false
tells-none xs v is = rw (is, bit_at-zero (v % 64)) refl

-- a node of the same place is the same one
apart : (v node : ℕ) → v ≢ node → v / 64 ≡ node / 64 → v % 64 ≢ node % 64
apart v node ne same is = ne (omega arith)

-- the word of the node with its bit set, and with its bit cleared
abbrev pub set_of : List ℕ → ℕ → List ℕ
set_of xs node = set xs (node / 64) (bit_or (get_or xs (node / 64) 0) (1 * 2 ^ (node % 64) % 18446744073709551616))

abbrev pub cleared_of : List ℕ → ℕ → List ℕ
cleared_of xs node = set xs (node / 64) (bit_and (get_or xs (node / 64) 0) (18446744073709551615 - 1 * 2 ^ (node % 64) % 18446744073709551616))

module _ (xs : List ℕ) (node : ℕ) (x : AreWords xs) (within : node < 256) where
  bit_within : node % 64 < 64
  bit_within = omega arith

  word_within : node / 64 < length xs
  word_within = omega (arith, x.four, within)

  abbrev here : ℕ
  here = get_or xs (node / 64) 0

  set-at : (v y : ℕ) → v / 64 ≡ node / 64 → get_or (set xs (node / 64) y) (v / 64) 0 ≡ y
  set-at v y same = get_or-set_at xs (node / 64) (v / 64) y 0 same word_within

  set-beside : (k y : ℕ) → k ≢ node / 64 → get_or (set xs (node / 64) y) k 0 ≡ get_or xs k 0
  set-beside k y other = get_or-set_other xs (node / 64) k y 0 other

  pub words-with : AreWords (set_of xs node)
  words-with = record {
    four = length-set xs (node / 64) (bit_or here (1 * 2 ^ (node % 64) % 18446744073709551616)) ∙ x.four;
    fits = λ k. elim (cases_eq k (node / 64)) [
      | inl same ↦ rw (get_or-set_at xs (node / 64) k (bit_or here (1 * 2 ^ (node % 64) % 18446744073709551616)) 0 same word_within) (or_lt 64 here (1 * 2 ^ (node % 64) % 18446744073709551616) (x.fits (node / 64)) (omega arith))
      | inr other ↦ rw (set-beside k (bit_or here (1 * 2 ^ (node % 64) % 18446744073709551616)) other) (x.fits k)
    ];
  }

  -- what is told of a node after its own word was written, from its bit there
  told-at : (v y b : ℕ) → v / 64 ≡ node / 64 → bit_at y (v % 64) ≡ b → tells (set xs (node / 64) y) v ≡ nat_eq b 1
  told-at v y b same bit = ap (λ (w : ℕ). nat_eq (bit_at w (v % 64)) 1) (set-at v y same) ∙ ap (λ (n : ℕ). nat_eq n 1) bit

  -- what is told of another node is as before, where its bit was kept
  told-beside : (v y : ℕ) → v ≢ node → ((i : ℕ) → i < 64 → i ≢ node % 64 → bit_at y i ≡ bit_at here i) → tells (set xs (node / 64) y) v ≡ tells xs v
  told-beside v y ne kept = elim (cases_eq (v / 64) (node / 64)) [
    | inl same ↦ told-at v y (bit_at here (v % 64)) same (kept (v % 64) (omega arith) (apart v node ne same)) ∙ ap (λ (k : ℕ). nat_eq (bit_at (get_or xs k 0) (v % 64)) 1) (sym same)
    | inr other ↦ ap (λ (w : ℕ). nat_eq (bit_at w (v % 64)) 1) (set-beside (v / 64) y other)
  ]

  pub tells-with : (v : ℕ) → tells (set_of xs node) v ≡ (nat_eq v node || tells xs v)
  tells-with v = elim (cases_eq v node) [
    | inl same ↦
        let bit = subst (λ (n : ℕ). bit_at (bit_or here (1 * 2 ^ (node % 64) % 18446744073709551616)) (n % 64) ≡ 1) (sym same) (bit_at_set_same w64 here (node % 64) bit_within) in
        told-at v (bit_or here (1 * 2 ^ (node % 64) % 18446744073709551616)) 1 (ap (λ (n : ℕ). n / 64) same) bit ∙ rw (eq-eqb v node same) refl
    | inr ne ↦ told-beside v (bit_or here (1 * 2 ^ (node % 64) % 18446744073709551616)) ne (λ i lt other. bit_at_set_other w64 here (node % 64) bit_within i other) ∙ rw (ne_eqb v node ne) refl
  ]

  pub tells-without : (v : ℕ) → tells (cleared_of xs node) v ≡ (not (nat_eq v node) && tells xs v)
  tells-without v = elim (cases_eq v node) [
    | inl same ↦
        let bit = subst (λ (n : ℕ). bit_at (bit_and here (18446744073709551615 - 1 * 2 ^ (node % 64) % 18446744073709551616)) (n % 64) ≡ 0) (sym same) (bit_at_clear_same w64 here (node % 64) bit_within) in
        told-at v (bit_and here (18446744073709551615 - 1 * 2 ^ (node % 64) % 18446744073709551616)) 0 (ap (λ (n : ℕ). n / 64) same) bit ∙ rw (eq-eqb v node same) refl
    | inr ne ↦ told-beside v (bit_and here (18446744073709551615 - 1 * 2 ^ (node % 64) % 18446744073709551616)) ne (λ i lt other. bit_at_clear_other w64 here (node % 64) bit_within i lt other) ∙ rw (ne_eqb v node ne) refl
  ]

-- so it is where the word and the place in it are known
pub word-without : (xs : List ℕ) (k t : ℕ) → AreWords xs → k < 4 → t < 64 → (v : ℕ)
    → tells (set xs k (bit_and (get_or xs k 0) (18446744073709551615 - 1 * 2 ^ t % 18446744073709551616))) v
    ≡ (not (nat_eq v (64 * k + t)) && tells xs v)
word-without xs k t x few lt v =
    let at : (64 * k + t) / 64 ≡ k = omega (arith, lt) in
    let place : (64 * k + t) % 64 ≡ t = omega (arith, lt) in
    let told : Bool = not (nat_eq v (64 * k + t)) && tells xs v in
    subst (λ (i : ℕ). tells (set xs i (bit_and (get_or xs i 0) (18446744073709551615 - 1 * 2 ^ t % 18446744073709551616))) v ≡ told) at
    (subst (λ (p : ℕ). tells (set xs ((64 * k + t) / 64) (bit_and (get_or xs ((64 * k + t) / 64) 0) (18446744073709551615 - 1 * 2 ^ p % 18446744073709551616))) v ≡ told) place
    (tells-without xs (64 * k + t) x (omega (arith, few, lt)) v))

-- no word has a one
module _ (xs : List ℕ) where
  pub nothing-told : ((k : ℕ) → get_or xs k 0 ≡ 0) → (v : ℕ) → tells xs v ≡ false
  nothing-told none v = tells-none xs v (none (v / 64))

  pub words-empty : AreWords xs → ((v : ℕ) → tells xs v ≡ false) → (k : ℕ) → get_or xs k 0 ≡ 0
  words-empty x silent k = same_from_bits_below 64 (get_or xs k 0) 0 (x.fits k) (omega arith) (λ i lt.
      let word : (64 * k + i) / 64 ≡ k = omega (arith, lt) in
      let place : (64 * k + i) % 64 ≡ i = omega (arith, lt) in
      let zero_there : nat_eq (bit_at (get_or xs k 0) i) 1 ≡ false = subst (λ (n : ℕ). nat_eq (bit_at (get_or xs n 0) i) 1 ≡ false) word (subst (λ (n : ℕ). nat_eq (bit_at (get_or xs ((64 * k + i) / 64) 0) n) 1 ≡ false) place (silent (64 * k + i))) in
      let small = bit_at-lt (get_or xs k 0) i in
      let ne = eqb-false (bit_at (get_or xs k 0) i) 1 zero_there in
      let nought : bit_at (get_or xs k 0) i ≡ 0 = omega (arith, small, ne) in
      nought ∙ sym (bit_at-zero i))

  -- the least bit of the first word that has one
  pub least-told : (k : ℕ) → ((j : ℕ) → j < k → get_or xs j 0 ≡ 0) → AreWords xs → get_or xs k 0 ≢ 0
      → (trailing_zeros w64 (get_or xs k 0) < 64) × (tells xs (64 * k + trailing_zeros w64 (get_or xs k 0)) ≡ true) × ((v : ℕ) → v < 64 * k + trailing_zeros w64 (get_or xs k 0) → tells xs v ≡ false)
  least-told k before x ne =
      let word = get_or xs k 0 in
      let t = trailing_zeros w64 word in
      let first = bit_at-trailing_zeros w64 word (omega (arith, ne)) (x.fits k) in
      let lt = first.0 in
      let at : (64 * k + t) / 64 ≡ k = omega (arith, lt) in
      let place : (64 * k + t) % 64 ≡ t = omega (arith, lt) in (
        lt,
        rw (at, place, first.1) refl,
        λ v below. elim (cases_lt (v / 64) k) [
          | inl less ↦ tells-none xs v (before (v / 64) less)
          | inr more ↦
              let same : v / 64 ≡ k = omega (arith, more, below, lt) in
              let lower : v % 64 < t = omega (arith, more, below, lt) in
              rw (same, first.2 (v % 64) lower) refl
        ],
      )

-- four words of zeros
pub words-none : (k : ℕ) → ◌≡◌ {A = ℕ} (get_or (0 ∷ 0 ∷ 0 ∷ 0 ∷ []) k 0) 0
words-none zero = refl
words-none (suc zero) = refl
words-none (suc (suc zero)) = refl
words-none (suc (suc (suc zero))) = refl
words-none (suc (suc (suc (suc k)))) = refl

-- each of four words is 0
pub four-none : (xs : List ℕ) → get_or xs 0 0 ≡ 0 → get_or xs 1 0 ≡ 0 → get_or xs 2 0 ≡ 0 → get_or xs 3 0 ≡ 0 → (k : ℕ) → k < 4 → get_or xs k 0 ≡ 0
four-none xs a b c d zero lt = a
four-none xs a b c d (suc zero) lt = b
four-none xs a b c d (suc (suc zero)) lt = c
four-none xs a b c d (suc (suc (suc zero))) lt = d
four-none xs a b c d (suc (suc (suc (suc k)))) lt = absurd (omega arith)

pub words-beyond : (xs : List ℕ) → AreWords xs → ((k : ℕ) → k < 4 → get_or xs k 0 ≡ 0) → (k : ℕ) → get_or xs k 0 ≡ 0
words-beyond xs x before k = elim (cases_lt k 4) [
  | inl less ↦ before k less
  | inr more ↦ get_or_past xs k 0 (omega (arith, x.four, more))
]

-- all of four words joined
abbrev pub joined : List ℕ → ℕ
joined xs = bit_or (bit_or (bit_or (get_or xs 0 0) (get_or xs 1 0)) (get_or xs 2 0)) (get_or xs 3 0)

pub words-joined : (xs : List ℕ) → AreWords xs → joined xs ≡ 0 → (k : ℕ) → get_or xs k 0 ≡ 0
words-joined xs x none zero = omega (arith, none, le_or_l (get_or xs 0 0) (get_or xs 1 0), le_or_l (bit_or (get_or xs 0 0) (get_or xs 1 0)) (get_or xs 2 0), le_or_l (bit_or (bit_or (get_or xs 0 0) (get_or xs 1 0)) (get_or xs 2 0)) (get_or xs 3 0))
words-joined xs x none (suc zero) = omega (arith, none, le_or_r (get_or xs 0 0) (get_or xs 1 0), le_or_l (bit_or (get_or xs 0 0) (get_or xs 1 0)) (get_or xs 2 0), le_or_l (bit_or (bit_or (get_or xs 0 0) (get_or xs 1 0)) (get_or xs 2 0)) (get_or xs 3 0))
words-joined xs x none (suc (suc zero)) = omega (arith, none, le_or_r (bit_or (get_or xs 0 0) (get_or xs 1 0)) (get_or xs 2 0), le_or_l (bit_or (bit_or (get_or xs 0 0) (get_or xs 1 0)) (get_or xs 2 0)) (get_or xs 3 0))
words-joined xs x none (suc (suc (suc zero))) = omega (arith, none, le_or_r (bit_or (bit_or (get_or xs 0 0) (get_or xs 1 0)) (get_or xs 2 0)) (get_or xs 3 0))
words-joined xs x none (suc (suc (suc (suc k)))) = get_or_past xs (suc (suc (suc (suc k)))) 0 (omega (arith, x.four))
