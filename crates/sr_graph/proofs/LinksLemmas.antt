-- Links in order of key: the first of metric 0, the first key that stands twice.
use Rattle.std.proofs.Common.{◌≡◌, ◌≢◌, ℕ, ◌+◌, ◌-◌, ◌<◌, ◌≤◌, ◌⊎◌, inl, inr, ⊎_elim, true, false, List, length, get_or, refl, arith, ap, sym, ◌∙◌, subst}
use Rattle.std.specs.declared.cmp.Ordering.{Ordering}
use Rattle.std.specs.declared.cmp.Ordering.TheVariants.{Less, Equal}
use Rattle.std.specs.Ordering.{is_lt, nat_cmp, ordering_then}
use Rattle.std.proofs.lemmas.Bool.{cases_eq, cases_lt}
use Rattle.std.proofs.lemmas.Cmp.{ranked, by_ranked}
use Rattle.std.proofs.lemmas.List.{get_or_default}
use Rattle.std.proofs.lemmas.List.Elements.{Contains-get_or}
use Rattle.sr_model.specs.declared.name.LinkKey.{LinkKey}
use Rattle.sr_model.specs.KeyOrder.{key_cmp}
use Rattle.sr_model.proofs.KeyOrderLemmas.{key_total}
use Rattle.sr_graph.specs.declared.draft.DraftLink.{DraftLink}
use Rattle.sr_graph.specs.Draft.{EndsLe, IsLeastKey, HasZero, IsTwice, NoZero, NoneTwice, AreSorted, key_of}
use Rattle.sr_graph.proofs.OrderLemmas.{Up, twice-at, not_below, once-each, up-from_once}

-- what isn't below by the key isn't below by the ends
ends_by : (x y z w : ℕ) (r : Ordering) → is_lt (ordering_then (nat_cmp x y) (ordering_then (nat_cmp z w) r)) ≡ false → (y < x) ⊎ (y ≡ x) × (w ≤ z)
ends_by x y z w r h =
    by_ranked (x < y) (x ≡ y) (y < x) (nat_cmp x y) (ranked x y (nat_cmp x y) refl)
    (λ e lt. absurd (let bad : true ≡ false = ap (λ t. is_lt (ordering_then t (ordering_then (nat_cmp z w) r))) (sym e) ∙ h in cc))
    (λ e same. by_ranked (z < w) (z ≡ w) (w < z) (nat_cmp z w) (ranked z w (nat_cmp z w) refl)
    (λ f lt. absurd (let bad : true ≡ false = ap (λ t. is_lt (ordering_then Equal (ordering_then t r))) (sym f) ∙ ap (λ t. is_lt (ordering_then t (ordering_then (nat_cmp z w) r))) (sym e) ∙ h in cc))
    (λ f eq. inr (sym same, omega arith))
    (λ f gt. inr (sym same, omega arith)))
    (λ e gt. inl gt)

ends-le : (a b : LinkKey) → is_lt (key_cmp b a) ≡ false → EndsLe a b
ends-le a b h = ends_by b.from a.from b.to a.to _ h

-- the first neighbour that isn't above the one before
pub duplicate-at : (links : List DraftLink) (i : ℕ) (d : DraftLink) → AreSorted links → i < length links → Up key_total key_of links i → 0 < i → key_cmp (get_or links (i - 1) d).key (get_or links i d).key ≢ Less → IsLeastKey (IsTwice links) (get_or links i d).key
duplicate-at links i d sorted within up more differ =
    let t = twice-at key_total key_of links sorted i d within up (i - 1) (omega arith) differ in
    record { holds = t.0; least = λ q two. ends-le (get_or links i d).key q (t.1 q two) }

-- the first link of metric 0
pub zero-at : (links : List DraftLink) (i : ℕ) (d : DraftLink) → AreSorted links → i < length links → ((k : ℕ) (e : DraftLink) → k < i → (get_or links k e).metric ≢ 0) → (get_or links i d).metric ≡ 0 → IsLeastKey (HasZero links) (get_or links i d).key
zero-at links i d sorted within none here = record {
  holds = (get_or links i d, Contains-get_or links i d within, refl, here);
  least = λ q zero.
      let j : ℕ = zero.1.0 in
      ⊎_elim
      (λ (before : j < i). absurd (none j zero.0 before (ap (λ (l : DraftLink). l.metric) zero.1.2 ∙ zero.3)))
      (λ (after : i ≤ j). let P : LinkKey → Type 0 = EndsLe (get_or links i d).key in subst P (ap (λ (l : DraftLink). l.key) zero.1.2 ∙ zero.2) (ends-le (get_or links i d).key (get_or links j zero.0).key (not_below key_total key_of links sorted i d within j zero.0 after zero.1.1)))
      (cases_lt j i);
}

-- no link of metric 0 was met
pub no_zero : (links : List DraftLink) (n : ℕ) → length links ≤ n → ((k : ℕ) (e : DraftLink) → k < n → (get_or links k e).metric ≢ 0) → NoZero links
no_zero links n le none key zero =
    none zero.1.0 zero.0 (let lt : zero.1.0 < length links = zero.1.1 in omega arith) (ap (λ (l : DraftLink). l.metric) zero.1.2 ∙ zero.3)

-- each key below n is below the next
pub record AscendBelow (links : List DraftLink) (n : ℕ) : Type 0 where
  pub at : Up key_total key_of links n

pub ascend-none : (links : List DraftLink) → AscendBelow links 1
ascend-none links = record { at = λ k d lt. absurd (omega arith) }

pub ascend-more : (links : List DraftLink) (i : ℕ) (d : DraftLink) → i < length links → 0 < i → AscendBelow links i → key_cmp (get_or links (i - 1) d).key (get_or links i d).key ≡ Less → AscendBelow links (i + 1)
ascend-more links i d within more up less = record {
  at = λ k e lt. ⊎_elim
      (λ (same : k ≡ i - 1).
      let next : k + 1 ≡ i = omega arith in
      let P : ℕ → Type 0 = λ m. key_cmp (get_or links k e).key (get_or links m e).key ≡ Less in
      let Q : ℕ → Type 0 = λ m. key_cmp (get_or links m e).key (get_or links i e).key ≡ Less in
      let T : DraftLink → Type 0 = λ l. key_cmp (get_or links (i - 1) e).key l.key ≡ Less in
      let S : DraftLink → Type 0 = λ l. key_cmp l.key (get_or links i d).key ≡ Less in
      subst P (sym next) (subst Q (sym same) (subst T (get_or_default links i d e within) (subst S (get_or_default links (i - 1) d e (omega arith)) less))))
      (λ (other : k ≢ i - 1). up.at k e (omega arith))
      (cases_eq k (i - 1));
}

ascend-all : (links : List DraftLink) (n : ℕ) → length links ≤ n → AscendBelow links n → AscendBelow links (length links)
ascend-all links n le up = record { at = λ k d lt. up.at k d (omega arith) }

pub none_twice : (links : List DraftLink) (n : ℕ) → length links ≤ n → AscendBelow links n → NoneTwice links
none_twice links n le up key twice =
    let all : AscendBelow links (length links) = ascend-all links n le up in
    omega (arith, once-each key_total key_of links all.at key)

-- sorted keys of which none stands twice ascend
pub ascend-from_once : (links : List DraftLink) → AreSorted links → NoneTwice links → AscendBelow links (length links)
ascend-from_once links sorted none = record { at = up-from_once key_total key_of links sorted none }

-- the same of elements that were read
pub zero-read : (links : List DraftLink) (i : ℕ) (x : DraftLink) → AreSorted links → i < length links → x ≡ get_or links i x → ((k : ℕ) (e : DraftLink) → k < i → (get_or links k e).metric ≢ 0) → x.metric ≡ 0 → IsLeastKey (HasZero links) x.key
zero-read links i x sorted within is none here =
    let P : DraftLink → Type 0 = λ l. IsLeastKey (HasZero links) l.key in
    subst P (sym is) (zero-at links i x sorted within none (ap (λ (l : DraftLink). l.metric) (sym is) ∙ here))

module _ (links : List DraftLink) (i : ℕ) (a b : DraftLink) (within : i < length links) (more : 0 < i) where
  cmp-read : key_cmp (get_or links (i - 1) b).key (get_or links i b).key ≡ key_cmp (get_or links (i - 1) a).key (get_or links i b).key
  cmp-read = ap (λ (l : DraftLink). key_cmp l.key (get_or links i b).key) (get_or_default links (i - 1) b a (omega arith))

  pub duplicate-read : (d : DraftLink) → AreSorted links → AscendBelow links i → (key_cmp (get_or links (i - 1) a).key (get_or links i b).key ≢ Less) → IsLeastKey (IsTwice links) (get_or links i d).key
  duplicate-read d sorted up differ =
      let P : DraftLink → Type 0 = λ l. IsLeastKey (IsTwice links) l.key in
      subst P (get_or_default links i b d within) (duplicate-at links i b sorted within up.at more (λ e. differ (sym cmp-read ∙ e)))

  pub ascend-read : AscendBelow links i → key_cmp (get_or links (i - 1) a).key (get_or links i b).key ≡ Less → AscendBelow links (i + 1)
  ascend-read up less = ascend-more links i b within more up (cmp-read ∙ less)
