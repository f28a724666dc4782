-- Bits that tell a test at places in a row.
use Rattle.std.proofs.Common.{◌≡◌, ℕ, zero, suc, ◌+◌, ◌-◌, ◌*◌, ◌/◌, ◌%◌, ◌^◌, ◌<◌, ◌≤◌, min, Bool, false, ◌&&◌, nat_eq, [], ◌∷◌, get_or, bit_or, refl, ap, subst, ◌∙◌, inl, inr, arith}
use Rattle.std.specs.Int.{bit_at}
use Rattle.std.proofs.Math.Nat.{mod-eq_of_lt, pow-le-pow_right}
use Rattle.std.proofs.lemmas.Bool.{cases_lt, lt-ltb, le-ltb}
use Rattle.std.proofs.lemmas.Nat.{or_lt, or_comm, or_shifted, shl_below}
use Rattle.std.proofs.lemmas.Nat.Bits.{bit_at-zero, bit_at_ones, bit_at_ones_above, bit_at_above, bit_at_cat_low, bit_at_cat_high}
use lib.Dec.{ltb}
use Rattle.sr_lanes.specs.Tests.{AreBitsOf}
use Rattle.sr_lanes.proofs.WordLemmas.{tells}

-- four words tell a test that says no from 256 on
module _ (test : ℕ → Bool) (a b c d : ℕ) (first : AreBitsOf test 0 64 a) (second : AreBitsOf test 64 64 b) (third : AreBitsOf test 128 64 c) (fourth : AreBitsOf test 192 64 d) (beyond : (v : ℕ) → 256 ≤ v → test v ≡ false) where
  at-word : (k i : ℕ) → i < 64 → nat_eq (bit_at (get_or (a ∷ b ∷ c ∷ d ∷ []) k 0) i) 1 ≡ test (64 * k + i)
  at-word zero i lt = first.told i lt
  at-word (suc zero) i lt = second.told i lt
  at-word (suc (suc zero)) i lt = third.told i lt
  at-word (suc (suc (suc zero))) i lt = fourth.told i lt
  at-word (suc (suc (suc (suc k)))) i lt = rw (bit_at-zero i, beyond (64 * suc (suc (suc (suc k))) + i) (omega arith)) refl

  pub tells-words : (v : ℕ) → tells (a ∷ b ∷ c ∷ d ∷ []) v ≡ test v
  tells-words v =
      let place : 64 * (v / 64) + v % 64 ≡ v = omega arith in
      at-word (v / 64) (v % 64) (omega arith) ∙ ap test place

longer : (m n : ℕ) → m ≤ n → 2 ^ m ≤ 2 ^ n
longer m n le = pow-le-pow_right {n = 2} (omega arith) {i = m} {j = n} le

-- a word that begins with ones tells the numbers below the count
pub ones-word : (count from : ℕ) → AreBitsOf (λ v. ltb v count) from 64 (2 ^ min (count - from) 64 - 1)
ones-word count from = record {
  within = let le = longer (min (count - from) 64) 64 (omega arith) in omega arith;
  told = λ i lt. elim (cases_lt (from + i) count) [
    | inl less ↦ rw (bit_at_ones (min (count - from) 64) i (omega arith), lt-ltb (from + i) count less) refl
    | inr more ↦ rw (bit_at_ones_above (min (count - from) 64) i (omega arith), le-ltb (from + i) count more) refl
  ];
}

-- bits that end within a word tell as a word the test below their end
pub bits-short : (test : ℕ → Bool) (from count bits end : ℕ) → AreBitsOf test from count bits → ((i : ℕ) → i < 64 → ltb (from + i) end ≡ ltb i count) → count ≤ 64 → AreBitsOf (λ v. ltb v end && test v) from 64 bits
bits-short test from count bits end b ends short = record {
  within = let le = longer count 64 short in let has = b.within in omega arith;
  told = λ i lt. elim (cases_lt i count) [
    | inl less ↦ rw (ends i lt, lt-ltb i count less) (b.told i less)
    | inr more ↦ rw (bit_at_above bits count i b.within more, ends i lt, le-ltb i count more) refl
  ];
}

-- eight bits more
pub bits-more : (test : ℕ → Bool) (from at bits eight : ℕ) → AreBitsOf test from at bits → AreBitsOf test (from + at) 8 eight → at + 8 ≤ 64 → AreBitsOf test from (at + 8) (bit_or bits (eight * 2 ^ at % 2 ^ 64))
bits-more test from at bits eight b e short =
    let turned : 8 + at ≡ at + 8 = omega arith in
    let top : eight * 2 ^ at < 2 ^ (at + 8) = subst (λ (n : ℕ). eight * 2 ^ at < 2 ^ n) turned (shl_below eight 8 at e.within) in
    let le = longer (at + 8) 64 short in
    let whole : eight * 2 ^ at % 2 ^ 64 ≡ eight * 2 ^ at = mod-eq_of_lt (omega (arith, top, le)) in
    let sum : bit_or bits (eight * 2 ^ at % 2 ^ 64) ≡ eight * 2 ^ at + bits = ap (bit_or bits) whole ∙ (or_comm bits (eight * 2 ^ at) ∙ or_shifted eight at bits b.within) in
    record {
      within = rw whole (or_lt (at + 8) bits (eight * 2 ^ at) (let more = longer at (at + 8) (omega arith) in let has = b.within in omega (arith, has, more)) top);
      told = λ i lt. rw sum (elim (cases_lt i at) [
        | inl less ↦ rw (bit_at_cat_low eight at bits i less) (b.told i less)
        | inr more ↦
            let place : from + at + (i - at) ≡ from + i = omega (arith, more) in
            rw (bit_at_cat_high eight at bits i b.within more) (e.told (i - at) (omega (arith, more, lt)) ∙ ap test place)
      ]);
    }

-- the groups that a word tells of end where all groups do
ends-alike : (groups start from count i : ℕ) → from ≡ 8 * start → count ≡ min (groups - start) 8 → i < 64 → ltb (from + i) (groups * 8) ≡ ltb i (8 * count)
ends-alike groups start from count i first is lt = elim (cases_lt i (8 * count)) [
  | inl less ↦ rw (lt-ltb i (8 * count) less, lt-ltb (from + i) (groups * 8) (omega arith)) refl
  | inr more ↦ rw (le-ltb i (8 * count) more, le-ltb (from + i) (groups * 8) (omega arith)) refl
]

-- what a word tells of its groups, of the groups in all
pub groups-told : (test : ℕ → Bool) (groups start from count bits : ℕ) → from ≡ 8 * start → count ≡ min (groups - start) 8 → AreBitsOf test from (8 * count) bits → AreBitsOf (λ v. ltb v (groups * 8) && test v) from 64 bits
groups-told test groups start from count bits first is b = bits-short test from (8 * count) bits (groups * 8) b (λ i lt. ends-alike groups start from count i first is lt) (omega arith)
