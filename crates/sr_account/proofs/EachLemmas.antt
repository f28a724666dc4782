-- What elements give in their order, counted from a place on.
use Rattle.std.proofs.Common.{◌≡◌, ℕ, zero, suc, ◌+◌, ◌<◌, ⊎_elim, List, [], ◌∷◌, ◌++◌, length, get_or, drop, Some, refl, ap, sym, ◌∙◌, subst, arith}
use Rattle.std.specs.Prelude.{Contains, slice_get}
use Rattle.std.proofs.Math.Seq.{drop-cons}
use Rattle.std.proofs.lemmas.List.Elements.{Contains-append_left, Contains-append_right, Contains-append_cases}
use Rattle.sr_domain.proofs.MemberLemmas.{nowhere}
use Rattle.sr_account.specs.Steps.{each_from}

-- the rest from a place on begins with what the element there gives
pub each-next : {X Y : Type 0} (give : ℕ → X → List Y) (n : ℕ) (xs : List X) (i : ℕ) (x : X) → i < length xs → get_or xs i x ≡ x → each_from give n (drop i xs) ≡ give n x ++ each_from give (n + 1) (drop (i + 1) xs)
each-next {X} give n xs i x lt e =
    ap (each_from give n) (drop-cons xs i x lt)
    ∙ ap (λ (y : X). give n y ++ each_from give (n + 1) (drop (suc i) xs)) e
    ∙ ap (λ (k : ℕ). give n x ++ each_from give (n + 1) (drop k xs)) (let same : suc i ≡ i + 1 = omega arith in same)

-- what is given is given by one of the elements
pub each-from : {X Y : Type 0} (give : ℕ → X → List Y) (n : ℕ) (xs : List X) (y : Y) → Contains (each_from give n xs) y → (i : ℕ) × (x : X) × (slice_get xs i ≡ Some x) × Contains (give (n + i) x) y
each-from give n [] y c = absurd (nowhere y c)
each-from {X} {Y} give n (x ∷ xs) y c = ⊎_elim
    (λ (now : Contains (give n x) y). (0, x, refl, subst (λ (k : ℕ). Contains (give k x) y) (let same : n ≡ n + 0 = omega arith in same) now))
    (λ (rest : Contains (each_from give (n + 1) xs) y).
    let r = each-from give (n + 1) xs y rest in
    (suc r.0, r.1, r.2, subst (λ (k : ℕ). Contains (give k r.1) y) (let same : n + 1 + r.0 ≡ n + suc r.0 = omega arith in same) r.3))
    (Contains-append_cases (give n x) (each_from give (n + 1) xs) y c)

-- what an element gives is given
pub each-to : {X Y : Type 0} (give : ℕ → X → List Y) (n : ℕ) (xs : List X) (i : ℕ) (x : X) (y : Y) → slice_get xs i ≡ Some x → Contains (give (n + i) x) y → Contains (each_from give n xs) y
each-to give n [] i x y e c = absurd (cc)
each-to {X} {Y} give n (z ∷ xs) zero x y e c =
    let same : z ≡ x = cc in
    Contains-append_left (give n z) (each_from give (n + 1) xs) y
    (subst (λ (v : X). Contains (give n v) y) (sym same) (subst (λ (k : ℕ). Contains (give k x) y) (let flat : n + 0 ≡ n = omega arith in flat) c))
each-to {X} {Y} give n (z ∷ xs) (suc i) x y e c =
    Contains-append_right (give n z) (each_from give (n + 1) xs) y
    (each-to give (n + 1) xs i x y e (subst (λ (k : ℕ). Contains (give k x) y) (let same : n + suc i ≡ n + 1 + i = omega arith in same) c))

-- whatever stands for elements past the end
pub get-any : {X : Type 0} (xs : List X) (i : ℕ) (a b : X) → i < length xs → get_or xs i a ≡ get_or xs i b
get-any [] i a b lt = absurd (let none : i < 0 = lt in omega arith)
get-any (x ∷ xs) zero a b lt = refl
get-any (x ∷ xs) (suc i) a b lt = get-any xs i a b (omega arith)
