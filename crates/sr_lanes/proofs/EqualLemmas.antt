-- A comparison of two vectors has every bit set where they are equal, and only there.
use Rattle.std.proofs.Common.{take, drop, ◌++◌, ◌≡◌, ℕ, ◌+◌, ◌-◌, ◌%◌, ◌^◌, ◌≤◌, ◌≢◌, ◌↔◌, true, false, List, [], ◌∷◌, map, length, refl, ap, sym, subst, ◌∙◌, ⊎_elim, arith, nat_eq, cond, eq-eqb}
use Rattle.std.proofs.Math.Nat.{pow-succ'}
use Rattle.std.proofs.lemmas.Bool.{eqb-true}
use Rattle.std.proofs.lemmas.Bool.Decides.{eqb_tells}
use Rattle.std.proofs.lemmas.List.{take-take, drop-take, take-append-drop}
use Rattle.std.proofs.lemmas.Simd.{tops_compared, mask_l-mod, length-zip2}
use lib.Dec.{eqb}
use lib.Lanes.{zip2, mask_l, top}
use mir.Syntax.{w64}

only_equal : (xs ys : List ℕ) → length xs ≡ length ys → mask_l (zip2 eqb xs ys) + 1 ≡ 2 ^ length xs → xs ≡ ys
only_equal [] [] len h = refl
only_equal [] (y ∷ ys) len h = absurd (omega arith)
only_equal (x ∷ xs) [] len h = absurd (omega arith)
only_equal (x ∷ xs) (y ∷ ys) len h =
    let p = pow-succ' 2 (length xs) in
    ⊎_elim
    (λ (t : (eqb x y ≡ true) × (x ≡ y)). let h' = rw t.0 at h in let rest = only_equal xs ys (omega arith) (omega arith) in cc (t.1, rest))
    (λ (t : (eqb x y ≡ false) × (x ≢ y)). let h' = rw t.0 at h in absurd (omega arith))
    (eqb_tells x y)

whole : (xs : List ℕ) → mask_l (zip2 eqb xs xs) + 1 ≡ 2 ^ length xs
whole [] = refl
whole (x ∷ xs) =
    let p = pow-succ' 2 (length xs) in
    let rest = whole xs in
    rw (eq-eqb x x refl) (omega arith)

-- eight lanes
pub equal_lanes : (xs ys : List ℕ) → length xs ≡ 8 → length ys ≡ 8
    → (nat_eq (mask_l (map (top 63) (zip2 (λ a b. cond (eqb a b) (2 ^ 64 - 1) 0) xs ys)) % 2 ^ 64) 255 ≡ true) ↔ (xs ≡ ys)
equal_lanes xs ys a b =
    let tops = ap mask_l (tops_compared w64 eqb xs ys) in
    let short = mask_l-mod (zip2 eqb xs ys) 64 (omega (arith, length-zip2 eqb xs ys (a ∙ sym b))) in
    let mask = ap (λ (n : ℕ). n % 2 ^ 64) tops ∙ short in
    let two : 2 ^ length xs ≡ 256 = ap (λ (n : ℕ). 2 ^ n) a in (
      (λ h. only_equal xs ys (a ∙ sym b) (let m = sym mask ∙ eqb-true _ 255 h in omega arith)),
      (λ e. eq-eqb _ 255 (mask ∙ (let w = subst (λ (zs : List ℕ). mask_l (zip2 eqb xs zs) + 1 ≡ 2 ^ length xs) e (whole xs) in omega arith))),
    )

-- a part of equal beginnings is equal
pub chunks_of_equal : (xs ys : List ℕ) (at end : ℕ) → at + 8 ≤ end → take end xs ≡ take end ys → take 8 (drop at xs) ≡ take 8 (drop at ys)
chunks_of_equal xs ys at end le same =
    let split : at + (end - at) ≡ end = omega (arith, le) in
    let within : 8 ≤ end - at = omega (arith, le) in
    let begun = subst (λ (n : ℕ). take n xs ≡ take n ys) (sym split) same in
    let cut = λ (zs : List ℕ). ap (λ (l : List ℕ). take 8 l) (drop-take at (end - at) zs) ∙ take-take 8 (end - at) (drop at zs) within in
    sym (cut xs) ∙ (ap (λ (l : List ℕ). take 8 (drop at l)) begun ∙ cut ys)

-- lists are equal whose beginnings and whose rests are equal
pub halves_equal : (xs ys : List ℕ) (n : ℕ) → take n xs ≡ take n ys → drop n xs ≡ drop n ys → xs ≡ ys
halves_equal xs ys n first rest = sym (take-append-drop n xs) ∙ ((λ i. first i ++ rest i) ∙ take-append-drop n ys)
