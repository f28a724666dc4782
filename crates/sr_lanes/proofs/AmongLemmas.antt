-- Nodes of a set that are tested one by one, word by word.
use Rattle.std.proofs.Common.{◌≡◌, ◌≢◌, ℕ, ◌+◌, ◌-◌, ◌*◌, ◌/◌, ◌%◌, ◌^◌, ◌<◌, ◌≤◌, ⊎_elim, Bool, true, false, ◌&&◌, nat_eq, List, get_or, bit_and, bit_or, refl, sym, ◌∙◌, subst, arith}
use Rattle.std.specs.Int.{bit_at}
use Rattle.std.proofs.lemmas.Bool.{cases_eq}
use Rattle.std.proofs.lemmas.Nat.Bits.{bit_at-zero, bit_at_set_same, bit_at_set_other, bit_at_clear_same, bit_at_clear_other}
use mir.Syntax.{w64}
use Rattle.sr_lanes.specs.Tests.{AreBitsOf, AreBitsAmong}
use Rattle.sr_lanes.proofs.WordLemmas.{tells}

-- of the bits of a word, those that aren't left were tested, and those that passed the test are found
pub record AreBitsTested (test : ℕ → Bool) (among left found : ℕ) : Type 0 where
  pub inside : (i : ℕ) → i < 64 → bit_at left i ≡ 1 → bit_at among i ≡ 1
  pub done : (i : ℕ) → i < 64 → bit_at left i ≡ 0 → nat_eq (bit_at found i) 1 ≡ (nat_eq (bit_at among i) 1 && test i)
  pub rest : (i : ℕ) → i < 64 → bit_at left i ≡ 1 → bit_at found i ≡ 0

-- a word without its bit b, and with it
abbrev pub clear_of : ℕ → ℕ → ℕ
clear_of word b = bit_and word (18446744073709551615 - 1 * 2 ^ b % 18446744073709551616)

abbrev pub made_of : ℕ → ℕ → ℕ
made_of word b = bit_or word (1 * 2 ^ b % 18446744073709551616)

module _ (test : ℕ → Bool) (among : ℕ) where
  pub bits-untested : AreBitsTested test among among 0
  bits-untested = record {
    inside = λ i lt is. is;
    done = λ i lt gone. rw (bit_at-zero i, gone) refl;
    rest = λ i lt is. bit_at-zero i;
  }

  pub bits-all : (found : ℕ) → AreBitsTested test among 0 found → (i : ℕ) → i < 64 → nat_eq (bit_at found i) 1 ≡ (nat_eq (bit_at among i) 1 && test i)
  bits-all found r i lt = r.done i lt (bit_at-zero i)

  module _ (left found b : ℕ) (r : AreBitsTested test among left found) (lt : b < 64) (is : bit_at left b ≡ 1) where
    abbrev less : ℕ
    less = clear_of left b

    gone : bit_at less b ≡ 0
    gone = bit_at_clear_same w64 left b lt

    kept : (i : ℕ) → i < 64 → i ≢ b → bit_at less i ≡ bit_at left i
    kept i within ne = bit_at_clear_other w64 left b lt i within ne

    -- a bit that is left is another
    other : (i : ℕ) → bit_at less i ≡ 1 → i ≢ b
    other i there same =
        let here : bit_at less b ≡ 1 = subst (λ k. bit_at less k ≡ 1) same there in
        omega (arith, here, gone)

    -- the bit passes the test
    pub bits-yes : test b ≡ true → AreBitsTested test among less (made_of found b)
    bits-yes passes = record {
      inside = λ i within there. r.inside i within (sym (kept i within (other i there)) ∙ there);
      done = λ i within out. ⊎_elim
          (λ (same : i ≡ b).
          let P : ℕ → Type 0 = λ k. nat_eq (bit_at (made_of found b) k) 1 ≡ (nat_eq (bit_at among k) 1 && test k) in
          subst P (sym same) (rw (bit_at_set_same w64 found b lt, r.inside b lt is, passes) refl))
          (λ (ne : i ≢ b). rw (bit_at_set_other w64 found b lt i ne) (r.done i within (sym (kept i within ne) ∙ out)))
          (cases_eq i b);
      rest = λ i within there.
          let ne : i ≢ b = other i there in
          bit_at_set_other w64 found b lt i ne ∙ r.rest i within (sym (kept i within ne) ∙ there);
    }

    -- or it doesn't
    pub bits-no : test b ≡ false → AreBitsTested test among less found
    bits-no fails = record {
      inside = λ i within there. r.inside i within (sym (kept i within (other i there)) ∙ there);
      done = λ i within out. ⊎_elim
          (λ (same : i ≡ b).
          let P : ℕ → Type 0 = λ k. nat_eq (bit_at found k) 1 ≡ (nat_eq (bit_at among k) 1 && test k) in
          subst P (sym same) (rw (r.rest b lt is, r.inside b lt is, fails) refl))
          (λ (ne : i ≢ b). r.done i within (sym (kept i within ne) ∙ out))
          (cases_eq i b);
      rest = λ i within there. r.rest i within (sym (kept i within (other i there)) ∙ there);
    }

    -- less is left
    pub bits-fewer : less ≤ left → less < left
    bits-fewer le = ⊎_elim
        (λ (same : less ≡ left).
        let here : bit_at left b ≡ 0 = subst (λ w. bit_at w b ≡ 0) same gone in
        absurd (omega (arith, here, is)))
        (λ (ne : less ≢ left). omega (arith, le, ne))
        (cases_eq less left)

-- the bits of a word of the set that pass the test tell the nodes of the set that do
pub among-told : (xs : List ℕ) (test : ℕ → Bool) (k from word bits : ℕ) → from ≡ 64 * k → word ≡ get_or xs k 0 → bits < 2 ^ 64
    → AreBitsAmong test from word bits → AreBitsOf (λ v. tells xs v && test v) from 64 bits
among-told xs test k from word bits begins is small are = record {
  within = small;
  told = λ i lt.
      let at : (from + i) / 64 ≡ k = omega (arith, begins, lt) in
      let place : (from + i) % 64 ≡ i = omega (arith, begins, lt) in
      are i lt ∙ rw (at, place, is) refl;
}

-- and a bit of the word tells a node of the set
pub word-told : (xs : List ℕ) (k from i : ℕ) → from ≡ 64 * k → i < 64 → bit_at (get_or xs k 0) i ≡ 1 → tells xs (from + i) ≡ true
word-told xs k from i begins lt is =
    let at : (from + i) / 64 ≡ k = omega (arith, begins, lt) in
    let place : (from + i) % 64 ≡ i = omega (arith, begins, lt) in
    rw (at, place, is) refl
