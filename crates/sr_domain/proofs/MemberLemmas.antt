-- What a list contains, and what its maps contain.
use Rattle.std.proofs.Common.{◌≡◌, ℕ, zero, suc, ◌<◌, ◌⊎◌, inl, inr, ⊎_elim, List, [], ◌∷◌, map, length, get_or, refl, arith, ap, sym, ◌∙◌, subst, Option, Some, None, Bool, true, false, cond, filter}
use Rattle.std.specs.Prelude.{Contains}
use Rattle.std.specs.List.{filter_map, cons_option, AllByRecursion}
use Rattle.std.proofs.lemmas.List.Elements.{All-from_recursion, All-contains}

pub here : {X : Type 0} (x : X) (xs : List X) → Contains (x ∷ xs) x
here x xs = (0, omega arith, refl)

pub later : {X : Type 0} (x : X) (xs : List X) (z : X) → Contains xs z → Contains (x ∷ xs) z
later x xs z c = (suc c.0, let lt : c.0 < length xs = c.1 in omega arith, c.2)

pub cases : {X : Type 0} (x : X) (xs : List X) (z : X) → Contains (x ∷ xs) z → (x ≡ z) ⊎ Contains xs z
cases {X} x xs z c = by c.0 c.1 c.2
  where
    by : (k : ℕ) → k < length (x ∷ xs) → get_or (x ∷ xs) k z ≡ z → (x ≡ z) ⊎ Contains xs z
    by zero lt e = inl e
    by (suc k) lt e = inr (k, omega arith, e)

pub nowhere : {X : Type 0} (z : X) → Contains [] z → ⊥
nowhere {X} z c = let lt : c.0 < length {A = X} [] = c.1 in omega arith

pub all-of : {X : Type 0} (P : X → Type 0) (xs : List X) (z : X) → AllByRecursion P xs → Contains xs z → P z
all-of P xs z all c = All-contains P xs z (All-from_recursion P xs all) c

pub mapped-from : {X Y : Type 0} (f : X → Y) (xs : List X) (y : Y) → Contains (map f xs) y → (x : X) × Contains xs x × (f x ≡ y)
mapped-from f [] y c = absurd (nowhere y c)
mapped-from {X} {Y} f (x ∷ xs) y c = ⊎_elim
    (λ (e : f x ≡ y). (x, here x xs, e))
    (λ (rest : Contains (map f xs) y). let r = mapped-from f xs y rest in (r.0, later x xs r.0 r.1, r.2))
    (cases (f x) (map f xs) y c)

pub mapped-to : {X Y : Type 0} (f : X → Y) (xs : List X) (x : X) → Contains xs x → Contains (map f xs) (f x)
mapped-to f [] x c = absurd (nowhere x c)
mapped-to {X} {Y} f (z ∷ xs) x c = ⊎_elim
    (λ (e : z ≡ x). subst (λ (v : X). Contains (map f (z ∷ xs)) (f v)) e (here (f z) (map f xs)))
    (λ (rest : Contains xs x). later (f z) (map f xs) (f x) (mapped-to f xs x rest))
    (cases z xs x c)

picked_by : {X Y : Type 0} (x : X) (y : Y) (ys : List Y) (o : Option Y) → Contains (cons_option o ys) y → (o ≡ Some y) ⊎ Contains ys y
picked_by x y ys None c = inr c
picked_by x y ys (Some z) c = ⊎_elim (λ (e : z ≡ y). inl (ap Some e)) (λ (rest : Contains ys y). inr rest) (cases z ys y c)

pub picked-from : {X Y : Type 0} (f : X → Option Y) (xs : List X) (y : Y) → Contains (filter_map f xs) y → (x : X) × Contains xs x × (f x ≡ Some y)
picked-from f [] y c = absurd (nowhere y c)
picked-from {X} {Y} f (x ∷ xs) y c = ⊎_elim
    (λ (e : f x ≡ Some y). (x, here x xs, e))
    (λ (rest : Contains (filter_map f xs) y). let r = picked-from f xs y rest in (r.0, later x xs r.0 r.1, r.2))
    (picked_by x y (filter_map f xs) (f x) c)

pub kept_by : {Y : Type 0} (y : Y) (ys : List Y) (o : Option Y) → Contains ys y → Contains (cons_option o ys) y
kept_by y ys None c = c
kept_by y ys (Some z) c = later z ys y c

pub picked-to : {X Y : Type 0} (f : X → Option Y) (xs : List X) (x : X) (y : Y) → Contains xs x → f x ≡ Some y → Contains (filter_map f xs) y
picked-to f [] x y c e = absurd (nowhere x c)
picked-to {X} {Y} f (z ∷ xs) x y c e = ⊎_elim
    (λ (same : z ≡ x). subst (λ (o : Option Y). Contains (cons_option o (filter_map f xs)) y) (sym (ap f same ∙ e)) (here y (filter_map f xs)))
    (λ (rest : Contains xs x). kept_by y (filter_map f xs) (f z) (picked-to f xs x y rest e))
    (cases z xs x c)

-- a filter keeps what is there and passes the test
pub filtered-from : {X : Type 0} (p : X → Bool) (xs : List X) (x : X) → Contains (filter p xs) x → Contains xs x × (p x ≡ true)
filtered-from p [] x c = absurd (nowhere x c)
filtered-from {X} p (y ∷ ys) x c = by (λ h. filtered-from p ys x h) (p y) refl c
  where
    by : (Contains (filter p ys) x → Contains ys x × (p x ≡ true)) → (b : Bool) → p y ≡ b → Contains (cond b (y ∷ filter p ys) (filter p ys)) x → Contains (y ∷ ys) x × (p x ≡ true)
    by rest true e h = ⊎_elim
        (λ (same : y ≡ x). (subst (λ (z : X). Contains (y ∷ ys) z) same (here y ys), ap p (sym same) ∙ e))
        (λ (more : Contains (filter p ys) x). let r = rest more in (later y ys x r.0, r.1))
        (cases y (filter p ys) x h)
    by rest false e h = let r = rest h in (later y ys x r.0, r.1)

pub filtered-to : {X : Type 0} (p : X → Bool) (xs : List X) (x : X) → Contains xs x → p x ≡ true → Contains (filter p xs) x
filtered-to p [] x c e = absurd (nowhere x c)
filtered-to {X} p (y ∷ ys) x c e = ⊎_elim
    (λ (same : y ≡ x). subst (λ (b : Bool). Contains (cond b (y ∷ filter p ys) (filter p ys)) x) (sym (ap p same ∙ e)) (subst (λ (z : X). Contains (y ∷ filter p ys) z) same (here y (filter p ys))))
    (λ (rest : Contains ys x). by (p y) (filtered-to p ys x rest e))
    (cases y ys x c)
  where
    by : (b : Bool) → Contains (filter p ys) x → Contains (cond b (y ∷ filter p ys) (filter p ys)) x
    by true h = later y (filter p ys) x h
    by false h = h
