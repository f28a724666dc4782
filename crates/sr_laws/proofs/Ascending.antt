-- Lists that ascend strictly and have the same members are the same.
use Rattle.std.proofs.Common.{◌≡◌, ℕ, zero, suc, ◌<◌, List, [], ◌∷◌, refl, arith, sym, ◌∙◌, subst, Some}
use Rattle.std.proofs.lemmas.Option.{same_Some}
use Rattle.std.specs.Prelude.{slice_get}

-- each member comes before each later one
abbrev pub Ascends : {A : Type 0} → (A → A → Type 0) → List A → Type 0
Ascends R xs = (i j : ℕ) (a b : _) → i < j → slice_get xs i ≡ Some a → slice_get xs j ≡ Some b → R a b

-- the first list's members are the second's
abbrev pub AreAmong : {A : Type 0} → List A → List A → Type 0
AreAmong xs ys = (k : ℕ) (a : _) → slice_get xs k ≡ Some a → (j : ℕ) × (slice_get ys j ≡ Some a)

tail_ascends : {A : Type 0} (R : A → A → Type 0) (x : A) (xs : List A) → Ascends R (x ∷ xs) → Ascends R xs
tail_ascends R x xs up i j a b lt p q = up (suc i) (suc j) a b (omega arith) p q

-- the members after the first are after the first in the other list too
tail_among : {A : Type 0} (R : A → A → Type 0) (x y : A) (xs ys : List A) → ((a : A) → R a a → ⊥) → Ascends R (x ∷ xs) → x ≡ y → AreAmong (x ∷ xs) (y ∷ ys) → AreAmong xs ys
tail_among {A} R x y xs ys irrefl up same among k a is = at (among (suc k) a is).0 (among (suc k) a is).1 where
  at : (j : ℕ) → slice_get (y ∷ ys) j ≡ Some a → (j : ℕ) × (slice_get ys j ≡ Some a)
  at zero e =
      let xa : x ≡ a = same ∙ same_Some _ _ e in
      absurd (irrefl a (subst (λ z. R z a) xa (up 0 (suc k) x a (omega arith) refl is)))
  at (suc j) e = (j, e)

head_same : {A : Type 0} (R : A → A → Type 0) (x y : A) (xs ys : List A) → ((a : A) → R a a → ⊥) → ((a b c : A) → R a b → R b c → R a c) → Ascends R (x ∷ xs) → Ascends R (y ∷ ys) → AreAmong (x ∷ xs) (y ∷ ys) → AreAmong (y ∷ ys) (x ∷ xs) → x ≡ y
head_same {A} R x y xs ys irrefl trans up up' there back = at (there 0 x refl).0 (there 0 x refl).1 (back 0 y refl).0 (back 0 y refl).1 where
  at : (k : ℕ) → slice_get (y ∷ ys) k ≡ Some x → (j : ℕ) → slice_get (x ∷ xs) j ≡ Some y → x ≡ y
  at zero e j f = sym (same_Some _ _ e)
  at (suc k) e zero f = same_Some _ _ f
  at (suc k) e (suc j) f = absurd (irrefl x (trans x y x (up 0 (suc j) x y (omega arith) refl f) (up' 0 (suc k) y x (omega arith) refl e)))

pub ascending-one : {A : Type 0} (R : A → A → Type 0) → ((a : A) → R a a → ⊥) → ((a b c : A) → R a b → R b c → R a c) → (xs ys : List A) → Ascends R xs → Ascends R ys → AreAmong xs ys → AreAmong ys xs → xs ≡ ys
ascending-one R irrefl trans [] [] up up' there back = refl
ascending-one R irrefl trans [] (y ∷ ys) up up' there back = let r : (j : ℕ) × (slice_get [] j ≡ Some y) = back 0 y refl in absurd {0} (cc (r.1))
ascending-one R irrefl trans (x ∷ xs) [] up up' there back = let r : (j : ℕ) × (slice_get [] j ≡ Some x) = there 0 x refl in absurd {0} (cc (r.1))
ascending-one R irrefl trans (x ∷ xs) (y ∷ ys) up up' there back =
    let same : x ≡ y = head_same R x y xs ys irrefl trans up up' there back in
    let rest : xs ≡ ys = ascending-one R irrefl trans xs ys (tail_ascends R x xs up) (tail_ascends R y ys up') (tail_among R x y xs ys irrefl up same there) (tail_among R y x ys xs irrefl up' (sym same) back) in
    cc
