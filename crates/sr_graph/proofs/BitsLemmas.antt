-- Sets of links as bits.
use Rattle.std.proofs.Common.{◌≡◌, ◌≢◌, ◌↔◌, ℕ, ◌+◌, ◌*◌, ◌/◌, ◌%◌, ◌^◌, ◌<◌, ◌≤◌, ◌⊎◌, inl, inr, ⊎_elim, max, List, length, get_or, set, arith, ap, sym, ◌∙◌, subst}
use Rattle.std.specs.Prelude.{bit_or}
use Rattle.std.specs.Int.{bit_at, w64}
use Rattle.std.proofs.lemmas.Bool.{cases_eq, cases_lt}
use Rattle.std.proofs.lemmas.List.{get_or-set_same, get_or-set_other, get_or_past, get_or_default}
use Rattle.std.proofs.lemmas.Nat.{div-add-mod', mod_below}
use Rattle.std.proofs.lemmas.Nat.Bits.{bit_at-zero, bit_at_or, bit_at-lt, bit_at_set_same, bit_at_set_other}
use Rattle.sr_graph.specs.Bits.{IsIn}

-- where the word is 0, nothing is in the set
pub not_in_zero : (words : List ℕ) (l : ℕ) → get_or words (l / 64) 0 ≡ 0 → IsIn words l → ⊥
not_in_zero words l none is =
    let at : bit_at (get_or words (l / 64) 0) (l % 64) ≡ 0 = ap (λ w. bit_at w (l % 64)) none ∙ bit_at-zero (l % 64) in
    let bad : 0 ≡ 1 = sym at ∙ is in
    absurd (omega (arith, bad))

-- a bit of an or is set where it is set in one of the two
pub or-either : (a b i : ℕ) → (bit_at (bit_or a b) i ≡ 1) ↔ ((bit_at a i ≡ 1) ⊎ (bit_at b i ≡ 1))
or-either a b i =
    let at : bit_at (bit_or a b) i ≡ max (bit_at a i) (bit_at b i) = bit_at_or a b i in
    let one : bit_at a i < 2 = bit_at-lt a i in
    let two : bit_at b i < 2 = bit_at-lt b i in (
      λ is. ⊎_elim
          (λ (e : bit_at a i ≡ 1). inl e)
          (λ (ne : bit_at a i ≢ 1). inr (omega (arith, at, one, two, is)))
          (cases_eq (bit_at a i) 1),
      λ either. ⊎_elim (λ e. omega (arith, at, one, two, e)) (λ e. omega (arith, at, one, two, e)) either,
    )

-- the first n words are united with the others
pub record AreUnited (before others after : List ℕ) (n : ℕ) : Type 0 where
  pub long : length after ≡ length before
  pub done : (k : ℕ) → k < n → get_or after k 0 ≡ bit_or (get_or before k 0) (get_or others k 0)
  pub rest : (k : ℕ) → n ≤ k → get_or after k 0 ≡ get_or before k 0

-- all words: the bits of both are set
pub united-all : (before others after : List ℕ) (n : ℕ) → length others ≤ n → AreUnited before others after n → (l : ℕ) → IsIn after l ↔ (IsIn before l ⊎ IsIn others l)
united-all before others after n whole k l =
    let place : ℕ = l / 64 in
    let either = or-either (get_or before (l / 64) 0) (get_or others (l / 64) 0) (l % 64) in
    ⊎_elim
    (λ (lt : l / 64 < n). let P : ℕ → Type 0 = λ w. (bit_at w (l % 64) ≡ 1) ↔ (IsIn before l ⊎ IsIn others l) in subst P (sym (k.done (l / 64) lt)) either)
    (λ (ge : n ≤ l / 64).
    let same : get_or after (l / 64) 0 ≡ get_or before (l / 64) 0 = k.rest (l / 64) ge in
    let P : ℕ → Type 0 = λ w. (bit_at w (l % 64) ≡ 1) ↔ (IsIn before l ⊎ IsIn others l) in
    let none : get_or others (l / 64) 0 ≡ 0 = get_or_past others (l / 64) 0 (omega arith) in
    subst P (sym same) (λ is. inl is, λ both. ⊎_elim (λ is. is) (λ bad. absurd (not_in_zero others l none bad)) both))
    (cases_lt (l / 64) n)

-- one bit more, where the word was read before
pub added-one : (words : List ℕ) (n word : ℕ) → n / 64 < length words → word ≡ get_or words (n / 64) word → (l : ℕ) → IsIn (set words (n / 64) (bit_or word (1 * 2 ^ (n % 64) % 2 ^ 64))) l ↔ (IsIn words l ⊎ (l ≡ n))
added-one words n word within was l =
    ⊎_elim
    (λ (e : l / 64 ≡ n / 64).
    let P : ℕ → Type 0 = λ w. (bit_at w (l % 64) ≡ 1) ↔ (IsIn words l ⊎ (l ≡ n)) in
    let before : get_or words (l / 64) 0 ≡ word = ap (λ k. get_or words k 0) e ∙ get_or_default words (n / 64) 0 word within ∙ sym was in
    subst P (sym (ap (λ k. get_or (set words (n / 64) (bit_or word (1 * 2 ^ (n % 64) % 2 ^ 64))) k 0) e ∙ get_or-set_same words (n / 64) _ 0 within))
    (⊎_elim
    (λ (same : l % 64 ≡ n % 64).
    let is : l ≡ n = sym (div-add-mod' l 64) ∙ ap (λ k. k * 64 + l % 64) e ∙ ap (λ k. n / 64 * 64 + k) same ∙ div-add-mod' n 64 in
    let there : bit_at (bit_or word (1 * 2 ^ (n % 64) % 2 ^ 64)) (l % 64) ≡ 1 = ap (bit_at (bit_or word (1 * 2 ^ (n % 64) % 2 ^ 64))) same ∙ bit_at_set_same w64 word (n % 64) (mod_below n 64 (omega arith)) in
    (λ h. inr is, λ h. there))
    (λ (differ : l % 64 ≢ n % 64).
    let keeps : bit_at (bit_or word (1 * 2 ^ (n % 64) % 2 ^ 64)) (l % 64) ≡ bit_at (get_or words (l / 64) 0) (l % 64) = bit_at_set_other w64 word (n % 64) (mod_below n 64 (omega arith)) (l % 64) differ ∙ ap (λ w. bit_at w (l % 64)) (sym before) in
    (λ h. inl (sym keeps ∙ h), λ either. ⊎_elim (λ h. keeps ∙ h) (λ (bad : l ≡ n). absurd (differ (ap (λ k. k % 64) bad))) either))
    (cases_eq (l % 64) (n % 64))))
    (λ (ne : l / 64 ≢ n / 64).
    let keeps : get_or (set words (n / 64) (bit_or word (1 * 2 ^ (n % 64) % 2 ^ 64))) (l / 64) 0 ≡ get_or words (l / 64) 0 = get_or-set_other words (n / 64) (l / 64) _ 0 ne in
    let same : bit_at (get_or (set words (n / 64) (bit_or word (1 * 2 ^ (n % 64) % 2 ^ 64))) (l / 64) 0) (l % 64) ≡ bit_at (get_or words (l / 64) 0) (l % 64) = ap (λ w. bit_at w (l % 64)) keeps in
    (λ h. inl (sym same ∙ h), λ either. ⊎_elim (λ h. same ∙ h) (λ (bad : l ≡ n). absurd (ne (ap (λ k. k / 64) bad))) either))
    (cases_eq (l / 64) (n / 64))
