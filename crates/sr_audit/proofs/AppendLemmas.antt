-- The places of two lists that are joined.
use Rattle.std.proofs.Common.{◌≡◌, ℕ, zero, suc, ◌+◌, ◌<◌, ◌⊎◌, inl, inr, ⊎_elim, List, [], ◌∷◌, ◌++◌, length, Some, slice_get, arith}

-- the item stands at its place in the first list, or in the second
abbrev pub IsIn : {X : Type 0} → List X → List X → ℕ → X → Type 0
IsIn xs ys k x = ((k < length xs) × (slice_get xs k ≡ Some x)) ⊎ ((j : ℕ) × (k ≡ length xs + j) × (slice_get ys j ≡ Some x))

-- an item of the joined list stands in one of the two
pub get-append : {X : Type 0} (xs ys : List X) (k : ℕ) (x : X) → slice_get (xs ++ ys) k ≡ Some x → IsIn xs ys k x
get-append [] ys k x e = inr (k, omega arith, e)
get-append (y ∷ xs) ys zero x e = inl (omega arith, e)
get-append (y ∷ xs) ys (suc k) x e = ⊎_elim
    (λ h. inl (omega (arith, h.0), h.1))
    (λ h. inr (h.0, omega (arith, h.1), h.2))
    (get-append xs ys k x e)
