-- Blocks of blanks, lane by lane.
use Rattle.std.proofs.Common.{◌≡◌, ℕ, zero, suc, ◌+◌, ◌-◌, ◌%◌, ◌^◌, ◌<◌, Bool, true, false, not, ◌||◌, cond, eqb, List, [], ◌∷◌, map, length, get_or, replicate, bit_and, IsTrue, ◌↔◌, refl, sym, ap, ◌∙◌, inl, inr, arith, eq-eqb}
use Rattle.std.proofs.lemmas.Bool.{cases_lt, eqb-true}
use Rattle.std.proofs.lemmas.List.{length-map}
use Rattle.std.proofs.lemmas.Simd.{get_or-chunk, length-zip2, mask_l-mod}
use lib.Lanes.{zip2, mask_l, top, chunk}
use Rattle.sr_script.specs.Words.{is_blank, AreBlanks}

-- a comparison of lanes: all bits, or none
abbrev differs : ℕ → ℕ → ℕ
differs a b = cond (not (eqb a b)) 255 0

-- which of n lanes are no blanks
abbrev others : ℕ → List ℕ → List Bool
others n xs = map (top 7) (zip2 bit_and (zip2 differs xs (replicate n 32)) (zip2 differs xs (replicate n 9)))

flag : (x : ℕ) → (◌≡◌ {A = ℕ} (cond (top 7 (bit_and (differs x 32) (differs x 9))) 1 0) 0) ↔ (is_blank x ≡ true)
flag x = go (eqb x 32) (eqb x 9)
  where
    go : (s t : Bool) → (◌≡◌ {A = ℕ} (cond (top 7 (bit_and (cond (not s) 255 0) (cond (not t) 255 0))) 1 0) 0) ↔ ((s || t) ≡ true)
    go true true = (λ _. refl, λ _. refl)
    go true false = (λ _. refl, λ _. refl)
    go false true = (λ _. refl, λ _. refl)
    go false false = (λ q. absurd (omega arith), λ q. cc q)

-- no bit is set just where each byte is a blank
none_set : (xs : List ℕ) → (mask_l (others (length xs) xs) ≡ 0) ↔ AreBlanks xs (length xs)
none_set [] = (λ _ k h. absurd (omega arith), λ _. refl)
none_set (x ∷ xs) =
    let r = none_set xs in
    (λ e. elim [ zero ↦ λ _. (flag x).0 (omega arith) | suc k ↦ λ h. r.0 (omega arith) k (omega arith) ], λ h. omega (arith, (flag x).1 (h 0 (omega arith)), r.1 (λ k l. h (suc k) (omega arith))))

mask_small : (xs : List ℕ) → length xs ≡ 16 → mask_l (others 16 xs) % 2 ^ 64 ≡ mask_l (others 16 xs)
mask_small xs len =
    let spaces = length-zip2 differs xs (replicate 16 32) len in
    let tabs = length-zip2 differs xs (replicate 16 9) len in
    let both = length-zip2 bit_and (zip2 differs xs (replicate 16 32)) (zip2 differs xs (replicate 16 9)) (spaces ∙ sym tabs) in
    mask_l-mod _ 64 (omega (arith, length-map (zip2 bit_and (zip2 differs xs (replicate 16 32)) (zip2 differs xs (replicate 16 9))) (top 7), both, spaces))

twice_not : (b : Bool) → not (not b) ≡ b
twice_not true = refl
twice_not false = refl

-- the mask of 16 lanes says whether all are blanks
pub blanks-shown : (xs : List ℕ) → length xs ≡ 16 → IsTrue (not (not (eqb (mask_l (others 16 xs) % 2 ^ 64) 0))) ↔ AreBlanks xs 16
blanks-shown xs len =
    let e = mask_small xs len ∙ ap (λ (n : ℕ). mask_l (others n xs)) (sym len) in (
      λ t k h. (none_set xs).0 (sym e ∙ eqb-true _ _ (sym (twice_not _) ∙ t)) k (omega (arith, len)),
      λ all. twice_not _ ∙ eq-eqb _ _ (e ∙ (none_set xs).1 (λ k h. all k (omega (arith, len)))),
    )

-- the blanks of a block, in their places in the text
pub blanks-more : (text : List ℕ) (i : ℕ) → AreBlanks text i → AreBlanks (chunk i 16 text) 16 → AreBlanks text (i + 16)
blanks-more text i before block k h =
    elim (cases_lt k i) [
      | inl old ↦ before k old
      | inr new ↦
          let j : ℕ = k - i in
          let place : i + j ≡ k = omega arith in
          let below : j < 16 = omega arith in
          ap is_blank (ap (λ (n : ℕ). get_or text n 0) (sym place) ∙ sym (get_or-chunk i 16 text j 0 below)) ∙ block j below
    ]

pub blanks-in_block : (text : List ℕ) (i : ℕ) → AreBlanks text (i + 16) → AreBlanks (chunk i 16 text) 16
blanks-in_block text i all j h = ap is_blank (get_or-chunk i 16 text j 0 h) ∙ all (i + j) (omega arith)
