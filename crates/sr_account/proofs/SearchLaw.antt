-- Searches through lists, and what lists contain by their places.
use Rattle.std.proofs.Common.{◌≡◌, ℕ, zero, suc, ◌<◌, ◌≤◌, ◌⊎◌, inl, inr, ⊎_elim, Bool, true, false, List, [], ◌∷◌, refl, arith, ap, sym, ◌∙◌, subst, Some, None}
use Rattle.std.specs.Prelude.{Contains, slice_get}
use Rattle.std.specs.List.{flat_map}
use Rattle.std.proofs.lemmas.Bool.{cases_lt, false≢true}
use Rattle.std.proofs.lemmas.List.Elements.{Contains-append_left, Contains-append_right, Contains-append_cases}
use Rattle.std.proofs.lemmas.Option.{get_or_from_slice_get, slice_get-get_or, slice_get_within}
use Rattle.sr_domain.proofs.MemberLemmas.{here, later, cases, nowhere}

-- the fact holds, or it doesn't
abbrev pub Decided : Type 0 → Type 0
Decided P = P ⊎ (P → ⊥)

pub decided-test : (b : Bool) → Decided (b ≡ true)
decided-test true = inl refl
decided-test false = inr (λ e. false≢true e)

pub decided-less : (a b : ℕ) → Decided (a < b)
decided-less a b = ⊎_elim (λ (lt : a < b). inl lt) (λ (le : b ≤ a). inr (λ (lt : a < b). let bad : ⊥ = omega arith in bad)) (cases_lt a b)

pub decided-both : {P Q : Type 0} → Decided P → Decided Q → Decided (P × Q)
decided-both (inl p) (inl q) = inl (p, q)
decided-both (inl p) (inr never) = inr (λ both. never both.1)
decided-both (inr never) q = inr (λ both. never both.0)

pub decided-either : {P Q : Type 0} → Decided P → Decided Q → Decided (P ⊎ Q)
decided-either (inl p) q = inl (inl p)
decided-either (inr never) (inl q) = inl (inr q)
decided-either (inr never) (inr not) = inr (λ either. ⊎_elim never not either)

pub decided-like : {P Q : Type 0} → (P → Q) → (Q → P) → Decided P → Decided Q
decided-like to from (inl p) = inl (to p)
decided-like to from (inr never) = inr (λ q. never (from q))

-- what can't fail holds
pub stable : {P : Type 0} → Decided P → ((P → ⊥) → ⊥) → P
stable (inl p) firm = p
stable (inr never) firm = absurd (firm never)

-- some place of the list has an element of which the fact holds, or none has
pub search-places : {X : Type 0} (P : ℕ → X → Type 0) (xs : List X) → ((k : ℕ) (x : X) → slice_get xs k ≡ Some x → Decided (P k x)) → Decided ((k : ℕ) × (x : X) × (slice_get xs k ≡ Some x) × P k x)
search-places {X} P [] decide = inr (λ (r : (k : ℕ) × (x : X) × (slice_get [] k ≡ Some x) × P k x). let bad : None ≡ Some r.1 = r.2 in absurd (cc))
search-places {X} P (x ∷ xs) decide = by (decide 0 x refl) (search-places (λ k y. P (suc k) y) xs (λ k y at. decide (suc k) y at))
  where
    neither : (P 0 x → ⊥) → ((r : (k : ℕ) × (y : X) × (slice_get xs k ≡ Some y) × P (suc k) y) → ⊥) → (k : ℕ) (y : X) → slice_get (x ∷ xs) k ≡ Some y → P k y → ⊥
    neither never none zero y at p = let same : x ≡ y = cc in never (subst (λ (z : X). P 0 z) (sym same) p)
    neither never none (suc k) y at p = none (k, y, at, p)

    by : Decided (P 0 x) → Decided ((k : ℕ) × (y : X) × (slice_get xs k ≡ Some y) × P (suc k) y) → Decided ((k : ℕ) × (y : X) × (slice_get (x ∷ xs) k ≡ Some y) × P k y)
    by (inl p) rest = inl (0, x, refl, p)
    by (inr never) (inl r) = inl (suc r.0, r.1, r.2, r.3)
    by (inr never) (inr none) = inr (λ r. neither never none r.0 r.1 r.2 r.3)

-- some element of the list has the fact, or none has
pub search-list : {X : Type 0} (P : X → Type 0) (xs : List X) → ((x : X) → Decided (P x)) → Decided ((x : X) × Contains xs x × P x)
search-list P [] decide = inr (λ r. nowhere r.0 r.1)
search-list {X} P (x ∷ xs) decide = by (decide x) (search-list P xs decide)
  where
    by : Decided (P x) → Decided ((y : X) × Contains xs y × P y) → Decided ((y : X) × Contains (x ∷ xs) y × P y)
    by (inl p) rest = inl (x, here x xs, p)
    by (inr never) (inl r) = inl (r.0, later x xs r.0 r.1, r.2)
    by (inr never) (inr none) = inr (λ r. ⊎_elim (λ (same : x ≡ r.0). never (subst (λ (y : X). P y) (sym same) r.2)) (λ (rest : Contains xs r.0). none (r.0, rest, r.2)) (cases x xs r.0 r.1))

-- ---- what a list contains, and at which place

pub place-of : {X : Type 0} (xs : List X) (x : X) → Contains xs x → (k : ℕ) × (slice_get xs k ≡ Some x)
place-of xs x c = (c.0, slice_get-get_or xs c.0 x c.1 ∙ ap Some c.2)

pub at-place : {X : Type 0} (xs : List X) (k : ℕ) (x : X) → slice_get xs k ≡ Some x → Contains xs x
at-place xs k x e = (k, slice_get_within xs k x e, get_or_from_slice_get xs k x x e)

pub flat-from : {X Y : Type 0} (f : X → List Y) (xs : List X) (y : Y) → Contains (flat_map f xs) y → (x : X) × Contains xs x × Contains (f x) y
flat-from f [] y c = absurd (nowhere y c)
flat-from {X} {Y} f (x ∷ xs) y c = ⊎_elim
    (λ (own : Contains (f x) y). (x, here x xs, own))
    (λ (rest : Contains (flat_map f xs) y). let r = flat-from f xs y rest in (r.0, later x xs r.0 r.1, r.2))
    (Contains-append_cases (f x) (flat_map f xs) y c)

pub flat-to : {X Y : Type 0} (f : X → List Y) (xs : List X) (x : X) (y : Y) → Contains xs x → Contains (f x) y → Contains (flat_map f xs) y
flat-to f [] x y c d = absurd (nowhere x c)
flat-to {X} {Y} f (z ∷ xs) x y c d = ⊎_elim
    (λ (same : z ≡ x). Contains-append_left (f z) (flat_map f xs) y (subst (λ (v : X). Contains (f v) y) (sym same) d))
    (λ (rest : Contains xs x). Contains-append_right (f z) (flat_map f xs) y (flat-to f xs x y rest d))
    (cases z xs x c)
