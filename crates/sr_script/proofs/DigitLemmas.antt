-- Blocks of hexadecimal digits, lane by lane.
use Rattle.std.proofs.Common.{◌≡◌, ℕ, zero, suc, ◌+◌, ◌-◌, ◌*◌, ◌/◌, ◌%◌, ◌^◌, ◌<◌, ◌≤◌, Bool, true, false, ◌&&◌, cond, eqb, ltb, leb, List, [], ◌∷◌, map, length, get_or, replicate, Option, Some, None, bit_and, bit_or, MatchOption, refl, sym, ap, ◌∙◌, subst, inl, inr, arith, w8, Fits, not, eq-eqb, IsTrue, ◌↔◌}
use Rattle.std.proofs.lemmas.Bool.{and_parts, cases_lt, eqb-true, leb-true, leb-false}
use Rattle.std.proofs.lemmas.List.{get_or-map, get_or_past, length-map, drop_more}
use Rattle.std.proofs.lemmas.Nat.{and_mask}
use Rattle.std.proofs.lemmas.Simd.{Each1-get_or, get_or_wider, below_from_Fits, mask_l-mod, length-zip2}
use lib.Lanes.{zip2, sel_l, mask_l, top, Each1, number_l, digits_l, chunk}
use Rattle.hex.specs.Hex.{hex_digit_value}
use Rattle.sr_script.specs.Digits.{IsValueOf, AreValuesOf, AreDigits, AreOctetsOf}

-- ---- the values of digits

-- a comparison of lanes: all bits, or none
abbrev below_mask : ℕ → ℕ → ℕ
below_mask a b = cond (ltb a b) 255 0

-- sums and differences that wrap
abbrev plus : ℕ → ℕ → ℕ
plus a b = (a + b) % 2 ^ 8

abbrev less : ℕ → ℕ → ℕ
less a b = (a + (2 ^ 8 - b)) % 2 ^ 8

abbrev greater_lanes : List ℕ → List ℕ → List ℕ
greater_lanes xs ys = sel_l (map (top 7) (zip2 below_mask xs ys)) ys xs

abbrev lesser_lanes : List ℕ → List ℕ → List ℕ
lesser_lanes xs ys = sel_l (map (top 7) (zip2 below_mask xs ys)) xs ys

abbrev decimal_lanes : ℕ → List ℕ → List ℕ
decimal_lanes n xs = zip2 plus (greater_lanes (zip2 less xs (replicate n 58)) (replicate n 6)) (replicate n 10)

abbrev letter_lanes : ℕ → List ℕ → List ℕ
letter_lanes n xs = zip2 plus (lesser_lanes (zip2 less (zip2 bit_or xs (replicate n 32)) (replicate n 97)) (replicate n 245)) (replicate n 10)

-- what is computed of n bytes
abbrev pub value_lanes : ℕ → List ℕ → List ℕ
value_lanes n xs = lesser_lanes (decimal_lanes n xs) (letter_lanes n xs)

-- and of one
abbrev value_lane : ℕ → ℕ
value_lane x = get_or (value_lanes 1 (x ∷ [])) 0 0

lane_by_lane : (xs : List ℕ) → value_lanes (length xs) xs ≡ map value_lane xs
lane_by_lane [] = refl
lane_by_lane (x ∷ xs) = ap (λ (t : List ℕ). value_lane x ∷ t) (lane_by_lane xs)

-- the test of one byte, which computes
abbrev is_value : Option ℕ → ℕ → Bool
is_value (Some v) value = eqb v value
is_value None value = leb 16 value

abbrev all_values : ℕ → Bool
all_values zero = true
all_values (suc n) = is_value (hex_digit_value n) (value_lane n) && all_values n

value_from_test : (o : Option ℕ) (value : ℕ) → is_value o value ≡ true → MatchOption o (16 ≤ value) (λ v. v ≡ value)
value_from_test (Some v) value h = eqb-true _ _ h
value_from_test None value h = leb-true _ _ h

value_at : (n k : ℕ) → all_values n ≡ true → k < n → IsValueOf k (value_lane k)
value_at zero k h lt = absurd (omega arith)
value_at (suc n) k h lt =
    let parts = and_parts (is_value (hex_digit_value n) (value_lane n)) (all_values n) h in
    elim (cases_lt k n) [
      | inl below ↦ value_at n k parts.1 below
      | inr top ↦
          let e : n ≡ k = omega arith in
          subst (λ (b : ℕ). IsValueOf b (value_lane b)) e (value_from_test (hex_digit_value n) (value_lane n) parts.0)
    ]

-- the lanes of 32 bytes are their values
pub values-are : (bytes : List ℕ) → length bytes ≡ 32 → Each1 (Fits w8) bytes → AreValuesOf 32 bytes (value_lanes 32 bytes)
values-are bytes len fits =
    let same : value_lanes 32 bytes ≡ map value_lane bytes = ap (λ (n : ℕ). value_lanes n bytes) (sym len) ∙ lane_by_lane bytes in
    record {
      count = ap length same ∙ length-map bytes value_lane ∙ len;
      lanes = (λ k h.
          let within : k < length bytes = omega (arith, len) in
          let small : get_or bytes k 0 < 256 = Each1-get_or (λ (x : ℕ). x < 256) bytes k 0 within (below_from_Fits w8 bytes fits) in
          let at : get_or (value_lanes 32 bytes) k 0 ≡ value_lane (get_or bytes k 0) = ap (λ (l : List ℕ). get_or l k 0) same ∙ get_or-map value_lane bytes k 0 0 within in
          subst (λ (v : ℕ). IsValueOf (get_or bytes k 0) v) (sym at) (value_at 256 (get_or bytes k 0) refl small));
    }

-- ---- the test that all are digits

abbrev at_least : ℕ → ℕ → ℕ
at_least a b = cond (leb a b) 255 0

flag : (x : ℕ) → (◌≡◌ {A = ℕ} (cond (top 7 (at_least 16 x)) 1 0) 0) ↔ (x < 16)
flag x = go (leb 16 x) refl
  where
    go : (t : Bool) → leb 16 x ≡ t → (◌≡◌ {A = ℕ} (cond (top 7 (cond t 255 0)) 1 0) 0) ↔ (x < 16)
    go true e = (λ q. absurd (omega arith), λ z. absurd (omega (arith, leb-true _ _ e)))
    go false e = (λ _. leb-false _ _ e, λ _. refl)

-- no bit is set just where each value is below 16
none_set : (xs : List ℕ) → (mask_l (map (top 7) (zip2 at_least (replicate (length xs) 16) xs)) ≡ 0) ↔ ((k : ℕ) → get_or xs k 0 < 16)
none_set [] = (λ _ k. omega arith, λ _. refl)
none_set (x ∷ xs) =
    let r = none_set xs in
    (λ e. elim [ zero ↦ (flag x).0 (omega arith) | suc k ↦ r.0 (omega arith) k ], λ h. omega (arith, (flag x).1 (h 0), r.1 (λ k. h (suc k))))

mask_small : (xs : List ℕ) → length xs ≡ 32 → mask_l (map (top 7) (zip2 at_least (replicate 32 16) xs)) % 2 ^ 64 ≡ mask_l (map (top 7) (zip2 at_least (replicate 32 16) xs))
mask_small xs len =
    mask_l-mod _ 64 (omega (arith, length-map (zip2 at_least (replicate 32 16) xs) (top 7), length-zip2 at_least (replicate 32 16) xs (sym len)))

twice_not : (b : Bool) → not (not b) ≡ b
twice_not true = refl
twice_not false = refl

-- the mask of 32 lanes says whether they are digits' values
pub digits-shown : (xs : List ℕ) → length xs ≡ 32 → IsTrue (not (not (eqb (mask_l (map (top 7) (zip2 at_least (replicate 32 16) xs)) % 2 ^ 64) 0))) ↔ AreDigits 32 xs
digits-shown xs len =
    let e = mask_small xs len ∙ ap (λ (n : ℕ). mask_l (map (top 7) (zip2 at_least (replicate n 16) xs))) (sym len) in
    let past : (k : ℕ) → 32 ≤ k → get_or xs k 0 ≡ 0 = λ k far. get_or_past xs k 0 (omega (arith, len)) in (
      λ t k h. (none_set xs).0 (sym e ∙ eqb-true _ _ (sym (twice_not _) ∙ t)) k,
      λ d.
          let all : (k : ℕ) → get_or xs k 0 < 16 = λ k. elim (cases_lt k 32) [ inl near ↦ d k near | inr far ↦ omega (arith, past k far) ] in
          twice_not _ ∙ eq-eqb _ _ (e ∙ (none_set xs).1 all),
    )

-- ---- octets

abbrev octet_of_pair : ℕ → ℕ
octet_of_pair pair = bit_and ((pair * 16 % 65536 + pair / 256) % 65536) 255

-- the two bytes of a pair
pair_at : (xs : List ℕ) (k : ℕ) → 2 * k + 1 < length xs → number_l 256 (chunk (2 * k) 2 xs) ≡ get_or xs (2 * k) 0 + 256 * get_or xs (2 * k + 1) 0
pair_at xs k fits =
    let a = drop_more xs (2 * k) 0 (omega arith) in
    let b = drop_more xs (2 * k + 1) 0 (omega arith) in
    let two : chunk (2 * k) 2 xs ≡ get_or xs (2 * k) 0 ∷ get_or xs (2 * k + 1) 0 ∷ [] = rw (a, b) refl in
    ap (number_l 256) two ∙ omega arith

octet-value : (high low : ℕ) → high < 16 → low < 16 → octet_of_pair (high + 256 * low) ≡ 16 * high + low
octet-value high low h l =
    and_mask ((((high + 256 * low) * 16 % 65536 + (high + 256 * low) / 256)) % 65536) 8 ∙ omega arith

pub octets-are : (values : List ℕ) → length values ≡ 32 → Each1 (Fits w8) values → AreDigits 32 values
    → AreOctetsOf 16 values (map octet_of_pair (digits_l 65536 16 (number_l 256 values)))
octets-are values len fits small = record {
  count = refl;
  lanes = (λ k h.
      let at : get_or (map octet_of_pair (digits_l 65536 16 (number_l 256 values))) k 0 ≡ octet_of_pair (get_or (digits_l 65536 16 (number_l 256 values)) k 0) =
      get_or-map octet_of_pair (digits_l 65536 16 (number_l 256 values)) k 0 0 h in
      let pair : get_or (digits_l 65536 16 (number_l 256 values)) k 0 ≡ get_or values (2 * k) 0 + 256 * get_or values (2 * k + 1) 0 =
      get_or_wider 256 2 65536 16 values k refl (below_from_Fits w8 values fits) h ∙ pair_at values k (omega (arith, len)) in
      at ∙ ap octet_of_pair pair ∙ octet-value (get_or values (2 * k) 0) (get_or values (2 * k + 1) 0) (small (2 * k) (omega arith)) (small (2 * k + 1) (omega arith)));
}
