-- Items of lists one behind the other, the end of a list, and what an option is not.
use Rattle.std.proofs.Common.{◌≡◌, ℕ, zero, suc, ◌+◌, ◌⊎◌, ⊎_elim, inl, inr, true, List, [], ◌∷◌, ◌++◌, length, Option, Some, None, refl, ap, ◌∙◌, arith}
use Rattle.std.specs.Prelude.{slice_get, is_some}

-- an item of the first list
pub get-left : {X : Type 0} (xs ys : List X) (i : ℕ) (x : X) → slice_get xs i ≡ Some x → slice_get (xs ++ ys) i ≡ Some x
get-left [] ys i x e = absurd {0} (cc)
get-left (z ∷ xs) ys zero x e = e
get-left (z ∷ xs) ys (suc i) x e = get-left xs ys i x e

-- an item of the second list
pub get-right : {X : Type 0} (xs ys : List X) (i j : ℕ) (x : X) → j ≡ length xs + i → slice_get ys i ≡ Some x → slice_get (xs ++ ys) j ≡ Some x
get-right [] ys i j x at e = let same : j ≡ i = omega arith in ap (slice_get ys) same ∙ e
get-right (z ∷ xs) ys i zero x at e = absurd (omega arith)
get-right (z ∷ xs) ys i (suc j) x at e = get-right xs ys i j x (omega arith) e

-- what was added last stands last
pub get-last : {X : Type 0} (xs : List X) (y : X) → slice_get (xs ++ y ∷ []) (length xs) ≡ Some y
get-last [] y = refl
get-last (z ∷ xs) y = get-last xs y

-- an item stood there before, or was added last
pub get-push : {X : Type 0} (xs : List X) (y : X) (i : ℕ) (x : X) → slice_get (xs ++ y ∷ []) i ≡ Some x → (slice_get xs i ≡ Some x) ⊎ ((i ≡ length xs) × (y ≡ x))
get-push [] y zero x e = inr (refl, cc)
get-push [] y (suc i) x e = absurd {0} (cc)
get-push (z ∷ xs) y zero x e = inl e
get-push (z ∷ xs) y (suc i) x e = ⊎_elim (λ h. inl h) (λ h. inr (omega (arith, h.0), h.1)) (get-push xs y i x e)

-- a list is empty, or has a last item
pub last-cut : {X : Type 0} (xs : List X) → (xs ≡ []) ⊎ ((ys : List X) × (x : X) × (xs ≡ ys ++ x ∷ []))
last-cut [] = inl refl
last-cut {X} (x ∷ xs) =
    ⊎_elim
    (λ (e : xs ≡ []). inr ([], x, ap (λ r. x ∷ r) e))
    (λ (c : (ys : List X) × (y : X) × (xs ≡ ys ++ y ∷ [])). inr (x ∷ c.0, c.1, ap (λ r. x ∷ r) c.2))
    (last-cut xs)

-- what is none isn't some
pub none-not_some : {X : Type 0} (o : Option X) → o ≡ None → is_some o ≡ true → ⊥
none-not_some None none some = absurd (cc)
none-not_some (Some x) none some = absurd (cc)
