-- Those of a list of which a fact holds.
use Rattle.std.proofs.Common.{◌≡◌, ℕ, zero, suc, ◌+◌, ◌≤◌, ◌⊎◌, ⊎_elim, inl, inr, Bool, true, false, cond, List, [], ◌∷◌, ◌++◌, length, Some, slice_get, count_by, refl, sym, ap, ◌∙◌, subst, arith}
use Rattle.std.proofs.lemmas.Bool.{cases_Bool}
use Rattle.std.proofs.lemmas.List.Sums.{sum_by-cons}
use Rattle.std.proofs.lemmas.Option.{same_Some}
use Rattle.sr_model.specs.declared.audit.Item.{Item}
use Rattle.sr_laws.proofs.Ascending.{Ascends}
use Rattle.sr_diff.specs.Diff.{AreSuch}

-- one more item, of which the fact holds
pub those-taken : (P : Item → Type 0) (xs those : List Item) (x : Item) → AreSuch P xs those → P x → AreSuch P (xs ++ x ∷ []) (those ++ x ∷ [])
those-taken P [] those x are holds = inl (holds, ([], ap (λ (zs : List Item). zs ++ x ∷ []) are, refl))
those-taken P (y ∷ xs) those x (inl t) holds =
    inl (t.0, (t.1.0 ++ x ∷ [], ap (λ (zs : List Item). zs ++ x ∷ []) t.1.1, those-taken P xs t.1.0 x t.1.2 holds))
those-taken P (y ∷ xs) those x (inr t) holds = inr (t.0, those-taken P xs those x t.1 holds)

-- one more item, of which it doesn't hold
pub those-left : (P : Item → Type 0) (xs those : List Item) (x : Item) → AreSuch P xs those → (P x → ⊥) → AreSuch P (xs ++ x ∷ []) those
those-left P [] those x are fails = inr (fails, are)
those-left P (y ∷ xs) those x (inl t) fails = inl (t.0, (t.1.0, t.1.1, those-left P xs t.1.0 x t.1.2 fails))
those-left P (y ∷ xs) those x (inr t) fails = inr (t.0, those-left P xs those x t.1 fails)

-- the fact is true of the members of the list
abbrev pub OfEach : (Item → Type 0) → List Item → Type 0
OfEach P xs = (k : ℕ) (x : Item) → slice_get xs k ≡ Some x → P x

-- how many there are with one that is taken
taken-length : (x : Item) (ps rest : List Item) → ps ≡ x ∷ rest → length ps ≡ length rest + 1
taken-length x ps rest e = ap (λ (zs : List Item). length zs) e ∙ omega arith

-- a fact takes one list
pub those-one : (P : Item → Type 0) (xs ps qs : List Item) → AreSuch P xs ps → AreSuch P xs qs → ps ≡ qs
those-one P [] ps qs a b = a ∙ sym b
those-one P (x ∷ xs) ps qs (inl a) (inl b) = a.1.1 ∙ ap (λ (zs : List Item). x ∷ zs) (those-one P xs a.1.0 b.1.0 a.1.2 b.1.2) ∙ sym b.1.1
those-one P (x ∷ xs) ps qs (inl a) (inr b) = absurd (b.0 a.0)
those-one P (x ∷ xs) ps qs (inr a) (inl b) = absurd (a.0 b.0)
those-one P (x ∷ xs) ps qs (inr a) (inr b) = those-one P xs ps qs a.1 b.1

-- no more are taken than there are
pub those-few : (P : Item → Type 0) (xs ps : List Item) → AreSuch P xs ps → length ps ≤ length xs
those-few P [] ps a =
    let none : length ps ≡ 0 = ap (λ (zs : List Item). length zs) a in
    omega (arith, none)
those-few P (x ∷ xs) ps (inl a) = omega (arith, taken-length x ps a.1.0 a.1.1, those-few P xs a.1.0 a.1.2)
those-few P (x ∷ xs) ps (inr a) = omega (arith, those-few P xs ps a.1)

-- where it holds of no member, none is taken
pub those-none : (P : Item → Type 0) (xs ps : List Item) → OfEach (λ x. P x → ⊥) xs → AreSuch P xs ps → ps ≡ []
those-none P [] ps fails a = a
those-none P (x ∷ xs) ps fails (inl a) = absurd (fails 0 x refl a.0)
those-none P (x ∷ xs) ps fails (inr a) = those-none P xs ps (λ k y e. fails (suc k) y e) a.1

-- those of a fact are as many as those of two others together, where it holds just where one of these does
pub those-split : (P Q R : Item → Type 0) (xs ps qs rs : List Item) → OfEach (λ x. P x → Q x → ⊥) xs → OfEach (λ x. P x ⊎ Q x → R x) xs → OfEach (λ x. R x → (P x → ⊥) → (Q x → ⊥) → ⊥) xs → AreSuch P xs ps → AreSuch Q xs qs → AreSuch R xs rs → length ps + length qs ≡ length rs
those-split P Q R [] ps qs rs apart there back a b c =
    let p : length ps ≡ 0 = ap (λ (zs : List Item). length zs) a in
    let q : length qs ≡ 0 = ap (λ (zs : List Item). length zs) b in
    let r : length rs ≡ 0 = ap (λ (zs : List Item). length zs) c in
    omega (arith, p, q, r)
those-split P Q R (x ∷ xs) ps qs rs apart there back (inl a) (inl b) c = absurd (apart 0 x refl a.0 b.0)
those-split P Q R (x ∷ xs) ps qs rs apart there back (inl a) (inr b) (inl c) =
    let rest = those-split P Q R xs a.1.0 qs c.1.0 (λ k y e. apart (suc k) y e) (λ k y e. there (suc k) y e) (λ k y e. back (suc k) y e) a.1.2 b.1 c.1.2 in
    omega (arith, rest, taken-length x ps a.1.0 a.1.1, taken-length x rs c.1.0 c.1.1)
those-split P Q R (x ∷ xs) ps qs rs apart there back (inl a) (inr b) (inr c) = absurd (c.0 (there 0 x refl (inl a.0)))
those-split P Q R (x ∷ xs) ps qs rs apart there back (inr a) (inl b) (inl c) =
    let rest = those-split P Q R xs ps b.1.0 c.1.0 (λ k y e. apart (suc k) y e) (λ k y e. there (suc k) y e) (λ k y e. back (suc k) y e) a.1 b.1.2 c.1.2 in
    omega (arith, rest, taken-length x qs b.1.0 b.1.1, taken-length x rs c.1.0 c.1.1)
those-split P Q R (x ∷ xs) ps qs rs apart there back (inr a) (inl b) (inr c) = absurd (c.0 (there 0 x refl (inr b.0)))
those-split P Q R (x ∷ xs) ps qs rs apart there back (inr a) (inr b) (inl c) = absurd (back 0 x refl c.0 a.0 b.0)
those-split P Q R (x ∷ xs) ps qs rs apart there back (inr a) (inr b) (inr c) =
    those-split P Q R xs ps qs rs (λ k y e. apart (suc k) y e) (λ k y e. there (suc k) y e) (λ k y e. back (suc k) y e) a.1 b.1 c.1

-- the item passes a test, and the fact doesn't hold of it
abbrev pub PassesBut : (Item → Bool) → (Item → Type 0) → Item → Type 0
PassesBut t P x = (t x ≡ true) × (P x → ⊥)

-- those that pass a test are those of which a fact holds, and the others
pub those-rest : (t : Item → Bool) (P : Item → Type 0) (xs ps : List Item) → ((x : Item) → P x → t x ≡ true) → AreSuch P xs ps → (rs : List Item) × AreSuch (PassesBut t P) xs rs × (length ps + length rs ≡ count_by t xs)
those-rest t P [] ps tells a =
    let none : length ps ≡ 0 = ap (λ (zs : List Item). length zs) a in
    ([], refl, omega (arith, none))
those-rest t P (x ∷ xs) ps tells (inl a) =
    let rest = those-rest t P xs a.1.0 tells a.1.2 in
    let one : cond {A = ℕ} (t x) 1 0 ≡ 1 = ap (λ (b : Bool). cond {A = ℕ} b 1 0) (tells x a.0) in
    (rest.0, inr (λ p. p.1 a.0, rest.1), omega (arith, rest.2, one, taken-length x ps a.1.0 a.1.1, sum_by-cons (λ (y : Item). cond {A = ℕ} (t y) 1 0) x xs))
those-rest t P (x ∷ xs) ps tells (inr a) =
    let rest = those-rest t P xs ps tells a.1 in
    ⊎_elim
    (λ (holds : t x ≡ true).
    let one : cond {A = ℕ} (t x) 1 0 ≡ 1 = ap (λ (b : Bool). cond {A = ℕ} b 1 0) holds in
    (x ∷ rest.0, inl ((holds, a.0), (rest.0, refl, rest.1)), omega (arith, rest.2, one, sum_by-cons (λ (y : Item). cond {A = ℕ} (t y) 1 0) x xs)))
    (λ (fails : t x ≡ false).
    let none : cond {A = ℕ} (t x) 1 0 ≡ 0 = ap (λ (b : Bool). cond {A = ℕ} b 1 0) fails in
    (rest.0, inr (λ p. absurd (cc (p.0, fails)), rest.1), omega (arith, rest.2, none, sum_by-cons (λ (y : Item). cond {A = ℕ} (t y) 1 0) x xs)))
    (cases_Bool (t x))

-- a member is the head or one of the rest
member-at : (P : Item → Type 0) (y : Item) (rest : List Item) → P y → ((k : ℕ) (x : Item) → slice_get rest k ≡ Some x → P x) → (k : ℕ) (x : Item) → slice_get (y ∷ rest) k ≡ Some x → P x
member-at P y rest head more zero x e = subst P (same_Some y x e) head
member-at P y rest head more (suc k) x e = more k x e

-- an empty list has no member
no-member : (ps : List Item) (k : ℕ) (x : Item) → ps ≡ [] → slice_get ps k ≡ Some x → ⊥
no-member [] k x none e = cc (e)
no-member (p ∷ ps) k x none e = cc (none)

-- a member of the list of which the fact holds
abbrev pub IsMemberWith : (Item → Type 0) → List Item → Item → Type 0
IsMemberWith P xs x = ((j : ℕ) × (slice_get xs j ≡ Some x)) × P x

-- a member of a list is one where an item comes before
member-later : (P : Item → Type 0) (y : Item) (xs : List Item) (x : Item) → IsMemberWith P xs x → IsMemberWith P (y ∷ xs) x
member-later P y xs x is = ((suc is.0.0, is.0.1), is.1)

-- what is taken is a member of which the fact holds
pub those-in : (P : Item → Type 0) (xs ps : List Item) → AreSuch P xs ps → (k : ℕ) (x : Item) → slice_get ps k ≡ Some x → IsMemberWith P xs x
those-in P [] ps a k x e = absurd (no-member ps k x a e)
those-in P (y ∷ xs) ps (inl a) k x e =
    member-at (IsMemberWith P (y ∷ xs)) y a.1.0 ((0, refl), a.0)
    (λ j z ez. member-later P y xs z (those-in P xs a.1.0 a.1.2 j z ez))
    k x (ap (λ (zs : List Item). slice_get zs k) (sym a.1.1) ∙ e)
those-in P (y ∷ xs) ps (inr a) k x e = member-later P y xs x (those-in P xs ps a.1 k x e)

-- a member of which the fact holds is taken
pub in-those : (P : Item → Type 0) (xs ps : List Item) → AreSuch P xs ps → (k : ℕ) (x : Item) → slice_get xs k ≡ Some x → P x → (j : ℕ) × (slice_get ps j ≡ Some x)
in-those P [] ps a k x e holds = absurd (no-member [] k x refl e)
in-those P (y ∷ xs) ps (inl a) zero x e holds = (0, ap (λ (zs : List Item). slice_get zs 0) a.1.1 ∙ e)
in-those P (y ∷ xs) ps (inl a) (suc k) x e holds =
    let rest = in-those P xs a.1.0 a.1.2 k x e holds in
    (suc rest.0, ap (λ (zs : List Item). slice_get zs (suc rest.0)) a.1.1 ∙ rest.1)
in-those P (y ∷ xs) ps (inr a) zero x e holds = absurd (a.0 (subst P (sym (same_Some y x e)) holds))
in-those P (y ∷ xs) ps (inr a) (suc k) x e holds = in-those P xs ps a.1 k x e holds

-- where the head comes before all others, and these ascend, the list ascends
ascends-from : (R : Item → Item → Type 0) (z : Item) (rest : List Item) → ((k : ℕ) (y : Item) → slice_get rest k ≡ Some y → R z y) → Ascends R rest → Ascends R (z ∷ rest)
ascends-from R z rest head up i zero x y lt ex ey = absurd (omega (arith, lt))
ascends-from R z rest head up zero (suc j) x y lt ex ey = subst (λ (w : Item). R w y) (same_Some z x ex) (head j y ey)
ascends-from R z rest head up (suc i) (suc j) x y lt ex ey = up i j x y (omega (arith, lt)) ex ey

-- what comes behind the head ascends
ascends-behind : (R : Item → Item → Type 0) (z : Item) (xs : List Item) → Ascends R (z ∷ xs) → Ascends R xs
ascends-behind R z xs up i j x y lt ex ey = up (suc i) (suc j) x y (omega (arith, lt)) ex ey

-- those of an ascending list ascend
pub those-ascend : (R : Item → Item → Type 0) (P : Item → Type 0) (xs ps : List Item) → Ascends R xs → AreSuch P xs ps → Ascends R ps
those-ascend R P [] ps up a = λ i j x y lt ex ey. absurd (no-member ps i x a ex)
those-ascend R P (z ∷ xs) ps up (inr a) = those-ascend R P xs ps (ascends-behind R z xs up) a.1
those-ascend R P (z ∷ xs) ps up (inl a) =
    let rest = those-ascend R P xs a.1.0 (ascends-behind R z xs up) a.1.2 in
    let head : (k : ℕ) (y : Item) → slice_get a.1.0 k ≡ Some y → R z y = λ k y e. let there = (those-in P xs a.1.0 a.1.2 k y e).0 in up 0 (suc there.0) z y (omega arith) refl there.1 in
    subst (λ (zs : List Item). Ascends R zs) (sym a.1.1) (ascends-from R z a.1.0 head rest)
