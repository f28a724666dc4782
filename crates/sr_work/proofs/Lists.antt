-- The last element of a list, and pairs in lists.
use Rattle.std.proofs.Common.{◌≡◌, suc, ◌-◌, ◌<◌, List, [], ◌∷◌, ◌++◌, length, slice_get, Some, refl, subst, arith, All}
use Rattle.std.specs.List.{AllPairs}
use Rattle.std.proofs.lemmas.List.Elements.{All-tail, All-append}
use Rattle.std.proofs.lemmas.List.Kept.{AllPairs-cons}

-- a list that isn't empty has a last element
pub last-there : {A : Type 0} (xs : List A) → 0 < length xs → (v : A) × (slice_get xs (length xs - 1) ≡ Some v)
last-there [] some = absurd (omega arith)
last-there (x ∷ []) some = (x, refl)
last-there {A} (x ∷ y ∷ xs) some =
    let more = last-there (y ∷ xs) (omega arith) in
    let e : suc (length (y ∷ xs) - 1) ≡ length (x ∷ y ∷ xs) - 1 = omega arith in
    (more.0, subst (λ n. slice_get (x ∷ y ∷ xs) n ≡ Some more.0) e more.1)

-- pairs within each list, and pairs between them, are all pairs of both together
pub pairs-append : {X : Type 0} (R : X → X → Type 0) (xs ys : List X) → AllPairs R xs → AllPairs R ys → All (λ x. All (R x) ys) xs → AllPairs R (xs ++ ys)
pairs-append R [] ys h k between = k
pairs-append R (x ∷ xs) ys h k between =
    let head : All (R x) xs = λ j d within. h 0 (suc j) d (omega arith) (omega (arith, within)) in
    let tail : AllPairs R xs = λ i j d lt within. h (suc i) (suc j) d (omega (arith, lt)) (omega (arith, within)) in
    let rest = pairs-append R xs ys tail k (All-tail (λ y. All (R y) ys) x xs between) in
    AllPairs-cons R x (xs ++ ys) (All-append (R x) xs ys head (between 0 x (omega arith))) rest
