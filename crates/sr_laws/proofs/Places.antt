-- The test of keys is their order, and a key has one place among those announced.
use Rattle.std.proofs.Common.{◌≡◌, ℕ, zero, suc, ◌+◌, ◌-◌, ◌<◌, ◌⊎◌, ⊎_elim, inl, inr, Bool, true, false, cond, List, [], ◌∷◌, refl, arith, ap, ◌∙◌, Option, Some, None, eq-eqb}
use Rattle.std.proofs.lemmas.Option.{same_Some}
use Rattle.std.specs.Prelude.{slice_get, map, filter, nat_lt, ◌==◌, ◌&&◌, if◌then◌else◌}
use Rattle.std.specs.Ordering.{is_eq}
use Rattle.std.proofs.lemmas.Bool.{cases_order, lt-ltb, ltb-true}
use Rattle.sr_model.specs.declared.name.LinkKey.{LinkKey}
use Rattle.sr_model.specs.KeyOrder.{key_cmp, same_key}
use Rattle.sr_model.specs.Graph.{Graph, link_count}
use Rattle.sr_model.specs.Case.{key_at}
use Rattle.sr_model.specs.Label.{keys_between, IsPlace}
use Rattle.sr_model.specs.Rule.{AreAnnounced}
use Rattle.sr_model.proofs.KeyOrderLemmas.{is_eq-true, key-from_cmp, key_cmp-same}
use Rattle.sr_laws.proofs.Keys.{KeyLt-irrefl}

pub key-told : (a b : LinkKey) → (same_key a b ≡ true → a ≡ b) × (a ≡ b → same_key a b ≡ true)
key-told a b = (λ e. key-from_cmp a b (is_eq-true (key_cmp a b) e), λ e. ap is_eq (key_cmp-same a b e))

-- ---- what stands in a mapped list is the image of what stood there
pub map-from : {A B : Type 0} (f : A → B) (xs : List A) (i : ℕ) (b : B) → slice_get (map f xs) i ≡ Some b → (a : A) × (slice_get xs i ≡ Some a) × (f a ≡ b)
map-from f [] i b e = absurd {0} (cc)
map-from f (x ∷ xs) zero b e = (x, refl, cc)
map-from f (x ∷ xs) (suc i) b e = map-from f xs i b e

-- ---- what a filter keeps stands in the same order
module _ {A : Type 0} where
  kept : (b : Bool) (y : A) (fs : List A) (j : ℕ) (v : A) → slice_get fs j ≡ Some v → (k : ℕ) × (slice_get (cond b (y ∷ fs) fs) k ≡ Some v)
  kept true y fs j v e = (suc j, e)
  kept false y fs j v e = (j, e)

  pub filter-place : (f : A → Bool) (xs : List A) (i : ℕ) (v : A) → slice_get xs i ≡ Some v → f v ≡ true → (j : ℕ) × (slice_get (filter f xs) j ≡ Some v)
  filter-place f [] i v e t = absurd {0} (cc)
  filter-place f (y ∷ ys) zero v e t =
      let same : y ≡ v = same_Some _ _ e in
      let passes : f y ≡ true = ap f same ∙ t in
      (0, ap (λ b. slice_get (cond b (y ∷ filter f ys) (filter f ys)) 0) passes ∙ e)
  filter-place f (y ∷ ys) (suc i) v e t =
      let r = filter-place f ys i v e t in
      kept (f y) y (filter f ys) r.0 v r.1

  pick_one : (b : Bool) (y : A) (fs : List A) (j : ℕ) (v : A) → slice_get (cond b (y ∷ fs) fs) j ≡ Some v → (y ≡ v) ⊎ ((k : ℕ) × (slice_get fs k ≡ Some v))
  pick_one true y fs zero v e = inl (same_Some _ _ e)
  pick_one true y fs (suc j) v e = inr (j, e)
  pick_one false y fs j v e = inr (j, e)

  pick_two : (b : Bool) (y : A) (fs : List A) (i j : ℕ) (u v : A) → i < j → slice_get (cond b (y ∷ fs) fs) i ≡ Some u → slice_get (cond b (y ∷ fs) fs) j ≡ Some v → ((y ≡ u) × (k : ℕ) × (slice_get fs k ≡ Some v)) ⊎ ((k : ℕ) × (l : ℕ) × (k < l) × (slice_get fs k ≡ Some u) × (slice_get fs l ≡ Some v))
  pick_two true y fs i zero u v lt e h = absurd (omega arith)
  pick_two true y fs zero (suc j) u v lt e h = inl (same_Some _ _ e, j, h)
  pick_two true y fs (suc i) (suc j) u v lt e h = inr (i, j, omega arith, e, h)
  pick_two false y fs i j u v lt e h = inr (i, j, lt, e, h)

  from_one : (f : A → Bool) (xs : List A) (j : ℕ) (v : A) → slice_get (filter f xs) j ≡ Some v → (k : ℕ) × (slice_get xs k ≡ Some v)
  from_one f [] j v e = absurd {0} (cc)
  from_one f (y ∷ ys) j v e =
      ⊎_elim
      (λ here. (0, ap Some here))
      (λ there. let r = from_one f ys there.0 v there.1 in (suc r.0, r.1))
      (pick_one (f y) y (filter f ys) j v e)

  pub filter-order : (f : A → Bool) (xs : List A) (i j : ℕ) (u v : A) → i < j → slice_get (filter f xs) i ≡ Some u → slice_get (filter f xs) j ≡ Some v → (k : ℕ) × (l : ℕ) × (k < l) × (slice_get xs k ≡ Some u) × (slice_get xs l ≡ Some v)
  filter-order f [] i j u v lt e h = absurd {0} (cc)
  filter-order f (y ∷ ys) i j u v lt e h =
      ⊎_elim
      (λ here. let r = from_one f ys here.1 v here.2 in (0, suc r.0, omega arith, ap Some here.0, r.1))
      (λ there. let r = filter-order f ys there.0 there.1 u v there.2 there.3 there.4 in (suc r.0, suc r.1, omega (arith, r.2), r.3, r.4))
      (pick_two (f y) y (filter f ys) i j u v lt e h)

-- ---- places
pub get_from : (b : Bool) (o : Option LinkKey) (k : LinkKey) → (if b then o else None) ≡ Some k → (b ≡ true) × (o ≡ Some k)
get_from true o k e = (refl, e)
get_from false o k e = absurd {0} (cc)

place-get : (keys : List LinkKey) (k : LinkKey) (n : ℕ) → IsPlace keys k n → (0 < n) × (slice_get (keys_between keys k.from k.to) (n - 1) ≡ Some k)
place-get keys k n is =
    let r = get_from (nat_lt 0 n) (slice_get (keys_between keys k.from k.to) (n - 1)) k is in
    (ltb-true 0 n r.0, r.1)

pub place-at : (keys : List LinkKey) (k : LinkKey) (j : ℕ) → slice_get (keys_between keys k.from k.to) j ≡ Some k → IsPlace keys k (j + 1)
place-at keys k j is =
    let above : nat_lt 0 (j + 1) ≡ true = lt-ltb 0 (j + 1) (omega arith) in
    let before : j + 1 - 1 ≡ j = omega arith in
    ap (λ b. if b then slice_get (keys_between keys k.from k.to) (j + 1 - 1) else None) above ∙ ap (slice_get (keys_between keys k.from k.to)) before ∙ is

apart : (g : Graph) (keys : List LinkKey) (k : LinkKey) (i j : ℕ) → AreAnnounced g keys → i < j → slice_get (keys_between keys k.from k.to) i ≡ Some k → slice_get (keys_between keys k.from k.to) j ≡ Some k → ⊥
apart g keys k i j a lt e h =
    let r = filter-order (λ (y : LinkKey). (y.from == k.from) && (y.to == k.to)) keys i j k k lt e h in
    KeyLt-irrefl k (a.ascending r.0 r.1 k k r.2 r.3 r.4)

between : (k : LinkKey) → ((k.from == k.from) && (k.to == k.to)) ≡ true
between k = rw (eq-eqb k.from k.from refl, eq-eqb k.to k.to refl) refl

pub place-one : (g : Graph) (keys : List LinkKey) → AreAnnounced g keys → (l : ℕ) → l < link_count g → (k : ℕ) × IsPlace keys (key_at g l) k × ((j : ℕ) → IsPlace keys (key_at g l) j → j ≡ k)
place-one g keys a l within =
    let at = a.holds l within in
    let r = filter-place (λ (y : LinkKey). (y.from == (key_at g l).from) && (y.to == (key_at g l).to)) keys at.0 (key_at g l) at.1 (between (key_at g l)) in (
      r.0 + 1,
      place-at keys (key_at g l) r.0 r.1,
      λ j is.
          let s = place-get keys (key_at g l) j is in
          let above : 0 < j = s.0 in
          ⊎_elim
          (λ (same : (j - 1) ≡ r.0). omega arith)
          (⊎_elim
          (λ (lt : (j - 1) < r.0). absurd (apart g keys (key_at g l) (j - 1) r.0 a lt s.1 r.1))
          (λ (gt : r.0 < (j - 1)). absurd (apart g keys (key_at g l) r.0 (j - 1) a gt r.1 s.1)))
          (cases_order (j - 1) r.0),
    )
