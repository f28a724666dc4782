-- Sums over the parts of a list.
use Rattle.std.proofs.Common.{◌≡◌, ℕ, zero, suc, ◌+◌, ◌<◌, ◌&&◌, Bool, true, false, cond, List, [], ◌∷◌, Some, slice_get, count_by, filter, refl, ap, ◌∙◌, arith}
use Rattle.std.specs.List.{sum_by}
use Rattle.std.proofs.lemmas.Bool.{false_from_ne_true}
use Rattle.std.proofs.lemmas.List.Sums.{sum_by-cons}
use Rattle.std.proofs.lemmas.Option.{same_Some}

-- sums of the same numbers
pub sum-same : {C : Type 0} (f g : C → ℕ) (cs : List C) → ((k : ℕ) (c : C) → slice_get cs k ≡ Some c → f c ≡ g c) → sum_by f cs ≡ sum_by g cs
sum-same f g [] same = refl
sum-same f g (c ∷ cs) same = omega (arith, sum_by-cons f c cs, sum_by-cons g c cs, same 0 c refl, sum-same f g cs (λ k b e. same (suc k) b e))

-- a sum of sums
sum-add : {C : Type 0} (f g h : C → ℕ) (cs : List C) → ((c : C) → h c ≡ f c + g c) → sum_by h cs ≡ sum_by f cs + sum_by g cs
sum-add f g h [] adds = refl
sum-add f g h (c ∷ cs) adds = omega (arith, sum_by-cons f c cs, sum_by-cons g c cs, sum_by-cons h c cs, adds c, sum-add f g h cs adds)

-- a sum of nothing
sum-zero : {C : Type 0} (f : C → ℕ) (cs : List C) → ((c : C) → f c ≡ 0) → sum_by f cs ≡ 0
sum-zero f [] none = refl
sum-zero f (c ∷ cs) none = omega (arith, sum_by-cons f c cs, none c, sum-zero f cs none)

-- 1 where it passes
pass-true : {C : Type 0} (q : C → Bool) (c : C) → q c ≡ true → ◌≡◌ {A = ℕ} (cond (q c) 1 0) 1
pass-true q c t = rw t refl

pass-false : {C : Type 0} (q : C → Bool) (c : C) → q c ≡ false → ◌≡◌ {A = ℕ} (cond (q c) 1 0) 0
pass-false q c t = rw t refl

-- none of them passes
pub count-none : {C : Type 0} (q : C → Bool) (cs : List C) → ((k : ℕ) (c : C) → slice_get cs k ≡ Some c → q c ≡ false) → count_by q cs ≡ 0
count-none q [] none = refl
count-none q (c ∷ cs) none = omega (arith, sum_by-cons (λ x. cond (q x) 1 0) c cs, pass-false q c (none 0 c refl), count-none q cs (λ k b e. none (suc k) b e))

-- no two of them pass
abbrev pub PassApart : {C : Type 0} → (C → Bool) → List C → Type 0
PassApart {C} q cs = (i j : ℕ) (a b : C) → i < j → slice_get cs i ≡ Some a → slice_get cs j ≡ Some b → q a ≡ true → q b ≡ true → ⊥

-- just one passes
pub count-one : {C : Type 0} (q : C → Bool) (cs : List C) (k : ℕ) (c : C) → slice_get cs k ≡ Some c → q c ≡ true → PassApart q cs → count_by q cs ≡ 1
count-one q [] k c e t apart = absurd (cc)
count-one q (x ∷ cs) zero c e t apart =
    let here : q x ≡ true = ap q (same_Some x c e) ∙ t in
    let rest = count-none q cs (λ j b eb. false_from_ne_true (q b) (λ tb. apart 0 (suc j) x b (omega arith) refl eb here tb)) in
    omega (arith, sum_by-cons (λ y. cond (q y) 1 0) x cs, pass-true q x here, rest)
count-one q (x ∷ cs) (suc k) c e t apart =
    let here : q x ≡ false = false_from_ne_true (q x) (λ tx. apart 0 (suc k) x c (omega arith) refl e tx t) in
    let rest = count-one q cs k c e t (λ i j a b lt ea eb. apart (suc i) (suc j) a b (omega arith) ea eb) in
    omega (arith, sum_by-cons (λ y. cond (q y) 1 0) x cs, pass-false q x here, rest)

-- the counts of parts of a list add up where each item that passes is in just one part, and each other item in none
pub sum-parts : {C X : Type 0} (picks : C → X → Bool) (test : X → Bool) (cs : List C) (xs : List X) → ((n : ℕ) (x : X) → slice_get xs n ≡ Some x → count_by (λ (c : C). picks c x) cs ≡ cond (test x) 1 0) → sum_by (λ (c : C). count_by (picks c) xs) cs ≡ count_by test xs
sum-parts {C} {X} picks test cs [] once = sum-zero (λ (c : C). count_by (picks c) []) cs (λ c. refl)
sum-parts {C} {X} picks test cs (x ∷ xs) once =
    let apart = sum-add (λ (c : C). cond (picks c x) 1 0) (λ (c : C). count_by (picks c) xs) (λ (c : C). count_by (picks c) (x ∷ xs)) cs (λ c. sum_by-cons (λ (y : X). cond (picks c y) 1 0) x xs) in
    omega (arith, apart, once 0 x refl, sum-parts picks test cs xs (λ n y e. once (suc n) y e), sum_by-cons (λ (y : X). cond (test y) 1 0) x xs)

-- how many of those that one test keeps pass another
count-kept : {X : Type 0} (q : X → Bool) (b : Bool) (x : X) (ys : List X) → count_by q (cond b (x ∷ ys) ys) ≡ cond (b && q x) 1 0 + count_by q ys
count-kept q true x ys = sum_by-cons (λ y. cond (q y) 1 0) x ys
count-kept q false x ys = omega arith

pub count-filter : {X : Type 0} (p q : X → Bool) (xs : List X) → count_by q (filter p xs) ≡ count_by (λ (x : X). p x && q x) xs
count-filter p q [] = refl
count-filter {X} p q (x ∷ xs) = omega (arith, count-kept q (p x) x (filter p xs), count-filter p q xs, sum_by-cons (λ (y : X). cond (p y && q y) 1 0) x xs)
