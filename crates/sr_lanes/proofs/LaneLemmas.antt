-- What a comparison of eight lanes tells.
use Rattle.std.proofs.Common.{◌≡◌, ℕ, ◌+◌, ◌-◌, ◌≤◌, take, drop, length-drop, ◌%◌, ◌^◌, ◌<◌, Bool, true, false, nat_eq, List, length, get_or, replicate, map, cond, refl, ap, ◌∙◌, sym, arith}
use Rattle.std.proofs.Math.Nat.{mod-eq_of_lt}
use Rattle.std.proofs.lemmas.Simd.{tops_compared, mask_l-mod, mask_l-lt, bit_mask_l, length-zip2, get_or-zip2, get_or-replicate, length-chunk, get_or-chunk}
use Rattle.std.proofs.lemmas.List.{take_all}
use lib.Lanes.{zip2, mask_l, top, chunk}
use mir.Syntax.{w64}
use Rattle.sr_lanes.specs.Tests.{AreBitsOf}

-- the bit mask of a comparison, lane by lane
abbrev pub lanes_told : (ℕ → ℕ → Bool) → List ℕ → List ℕ → ℕ
lanes_told t xs ys = mask_l (map (top 63) (zip2 (λ a b. cond (t a b) (2 ^ 64 - 1) 0) xs ys)) % 2 ^ 64

module _ (t : ℕ → ℕ → Bool) (xs ys : List ℕ) (x8 : length xs ≡ 8) (y8 : length ys ≡ 8) where
  count : length (zip2 t xs ys) ≡ 8
  count = length-zip2 t xs ys (x8 ∙ sym y8) ∙ x8

  mask : lanes_told t xs ys ≡ mask_l (zip2 t xs ys)
  mask = ap (λ (n : ℕ). n % 2 ^ 64) (ap mask_l (tops_compared w64 t xs ys)) ∙ mask_l-mod (zip2 t xs ys) 64 (omega (arith, count))

  of_bit : (b : Bool) → nat_eq (cond b 1 0) 1 ≡ b
  of_bit true = refl
  of_bit false = refl

  pub bits-lanes : (test : ℕ → Bool) (from : ℕ) → ((i : ℕ) → i < 8 → t (get_or xs i 0) (get_or ys i 0) ≡ test (from + i)) → AreBitsOf test from 8 (lanes_told t xs ys)
  bits-lanes test from same = record {
    within = let lt = mask_l-lt (zip2 t xs ys) in rw mask (rw count at lt);
    told = λ i lt.
        let lane = get_or-zip2 t xs ys i 0 0 false (omega (arith, x8)) (omega (arith, y8)) in
        rw (mask, bit_mask_l (zip2 t xs ys) i) (of_bit (get_or (zip2 t xs ys) i false) ∙ (lane ∙ same i lt));
  }

-- the eight lanes of a row from this place on
abbrev pub lanes_at : ℕ → List ℕ → List ℕ
lanes_at at xs = chunk 0 8 (take (length xs - at) (drop at xs))

lanes_chunk : (at : ℕ) (xs : List ℕ) → lanes_at at xs ≡ chunk at 8 xs
lanes_chunk at xs = ap (λ (ys : List ℕ). take 8 ys) (take_all (length xs - at) (drop at xs) (let le = length-drop at xs in omega (arith, le)))

module _ (at : ℕ) (xs : List ℕ) (room : at + 8 ≤ length xs) where
  pub length-lanes_at : length (lanes_at at xs) ≡ 8
  length-lanes_at = ap length (lanes_chunk at xs) ∙ length-chunk at 8 xs room

  pub get_or-lanes_at : (i : ℕ) → i < 8 → get_or (lanes_at at xs) i 0 ≡ get_or xs (at + i) 0
  get_or-lanes_at i lt = ap (λ (ys : List ℕ). get_or ys i 0) (lanes_chunk at xs) ∙ get_or-chunk at 8 xs i 0 lt

-- eight sums with one number
abbrev pub sums_of : ℕ → List ℕ → List ℕ
sums_of c ys = zip2 (λ a b. (a + b) % 2 ^ 64) (replicate 8 c) ys

pub length-sums_of : (c : ℕ) (ys : List ℕ) → length ys ≡ 8 → length (sums_of c ys) ≡ 8
length-sums_of c ys y8 = length-zip2 (λ a b. (a + b) % 2 ^ 64) (replicate 8 c) ys (sym y8)

pub get_or-sums_of : (c : ℕ) (ys : List ℕ) (i : ℕ) → length ys ≡ 8 → i < 8 → c + get_or ys i 0 < 2 ^ 64 → get_or (sums_of c ys) i 0 ≡ c + get_or ys i 0
get_or-sums_of c ys i y8 lt small = get_or-zip2 (λ a b. (a + b) % 2 ^ 64) (replicate 8 c) ys i 0 0 0 lt (omega (arith, y8)) ∙ (ap (λ (a : ℕ). (a + get_or ys i 0) % 2 ^ 64) (get_or-replicate 8 i c 0 lt) ∙ mod-eq_of_lt small)
