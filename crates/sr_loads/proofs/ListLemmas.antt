-- Items of lists one behind the other, and ranges of numbers.
use Rattle.std.proofs.Common.{◌≡◌, ℕ, zero, suc, ◌+◌, ◌⊎◌, ⊎_elim, inl, inr, List, [], ◌∷◌, ◌++◌, length, Some, refl, ap, arith}
use Rattle.std.specs.Prelude.{slice_get}
use Rattle.std.specs.List.{AllZip, range_with_len}

-- ---- the items of a list

-- an item is one of the first list, or of the second
pub get_either : {X : Type 0} (xs ys : List X) (i : ℕ) (x : X) → slice_get (xs ++ ys) i ≡ Some x → (slice_get xs i ≡ Some x) ⊎ ((j : ℕ) × (i ≡ length xs + j) × (slice_get ys j ≡ Some x))
get_either [] ys i x e = inr (i, omega arith, e)
get_either (z ∷ xs) ys zero x e = inl e
get_either (z ∷ xs) ys (suc i) x e = ⊎_elim (λ h. inl h) (λ h. inr (h.0, omega (arith, h.1), h.2)) (get_either xs ys i x e)

-- ---- two lists place by place
pub zip_append : {A B : Type 0} (R : A → B → Type 0) (xs xs' : List A) (ys ys' : List B) → AllZip R xs ys → AllZip R xs' ys' → AllZip R (xs ++ xs') (ys ++ ys')
zip_append R [] xs' [] ys' p q = q
zip_append R [] xs' (y ∷ ys) ys' p q = absurd p
zip_append R (x ∷ xs) xs' [] ys' p q = absurd p
zip_append R (x ∷ xs) xs' (y ∷ ys) ys' p q = (p.0, zip_append R xs xs' ys ys' p.1 q)

-- the part that belongs to the first list, and the one that belongs to the second
pub record AreParted {A B : Type 0} (R : A → B → Type 0) (xs xs' : List A) (ys : List B) : Type 0 where
  pub first : List B
  pub second : List B
  pub joined : ys ≡ first ++ second
  pub one : AllZip R xs first
  pub two : AllZip R xs' second

pub zip_parted : {A B : Type 0} (R : A → B → Type 0) (xs xs' : List A) (ys : List B) → AllZip R (xs ++ xs') ys → AreParted R xs xs' ys
zip_parted R [] xs' ys p = record { first = []; second = ys; joined = refl; one = tt; two = p }
zip_parted R (x ∷ xs) xs' [] p = absurd p
zip_parted R (x ∷ xs) xs' (y ∷ ys) p =
    let rest = zip_parted R xs xs' ys p.1 in
    record { first = y ∷ rest.first; second = rest.second; joined = ap (λ zs. y ∷ zs) rest.joined; one = (p.0, rest.one); two = rest.two }

-- ---- ranges
pub range-push : (a n j : ℕ) → a + n ≡ j → range_with_len a (suc n) ≡ range_with_len a n ++ j ∷ []
range-push a zero j is = let e : a ≡ j = omega (arith, is) in ap (λ (k : ℕ). k ∷ []) e
range-push a (suc n) j is = ap (λ (ks : List ℕ). a ∷ ks) (range-push (a + 1) n j (omega (arith, is)))
