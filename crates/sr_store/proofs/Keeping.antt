-- Each step on a place keeps the rule that the places which know their store are of one store.
use Rattle.std.proofs.Common.{◌≡◌, ℕ, ◌-◌, ◌≢◌, List, [], ◌∷◌, ◌++◌, length, true, Some, slice_get, set, refl, sym, ap, ◌∙◌, subst, ⊎_elim, arith, length-append}
use mathlib.Core.Option.{some}
use lib.ListN.{get_elem?}
use Rattle.atomic_table.proofs.Lists.{at_set, at_snoc}
use Rattle.logbook.specs.Pages.{Book}
use Rattle.sr_store.specs.declared.place.StoreName.{StoreName}
use Rattle.sr_store.specs.declared.place.View.{View}
use Rattle.sr_store.specs.Places.{AllOf, Looks, store_name, newcomer, knower}
use Rattle.sr_store.specs.Histories.{History}
use Rattle.sr_store.specs.Lists.{EndsWith}
use Rattle.sr_seq.proofs.ListLemmas.{get-last}

-- a name says which store it is
pub same_store : (a b : Book) → store_name a ≡ store_name b → a ≡ b
same_store a b e = ap (λ (m : StoreName). record { number = m.number; log_name = m.log_name; cells_name = m.cells_name }) e

pub added : (b : Book) (views : List View) → AllOf b views → AllOf b (views ++ newcomer ∷ [])
added b views h seat v at knows = ⊎_elim (λ old. h seat v old knows) (λ (new : newcomer ≡ v). absurd (cc (ap (λ (w : View). w.knows) new, knows))) (at_snoc views newcomer v seat at)

pub placed : (b : Book) (views : List View) (seat : ℕ) (w : View) → AllOf b views → (w.knows ≡ true → w.store ≡ store_name b) → AllOf b (set views seat w)
placed b views seat w h fits other v at knows =
    ⊎_elim (λ (t : (other ≡ seat) × (w ≡ v)). subst (λ (u : View). u.store ≡ store_name b) t.1 (fits (ap (λ (u : View). u.knows) t.1 ∙ knows)))
    (λ (t : (other ≢ seat) × (get_elem? views other ≡ some v)). h other v t.1 knows)
    (at_set views seat other w v at)

pub looks : {V : Type 0} (h : History V) (views : List View) (seat : ℕ) (v : View) → AllOf h.store views → get_elem? views seat ≡ some v
    → (w : View) × AllOf h.store (set views seat w) × Looks v h h w
looks h views seat v all at = (knower h, placed h.store views seat (knower h) all (λ _. refl), ((λ knows. all seat v at knows), refl))

-- what was added last is the last one
pub ends_with : {V : Type 0} (xs : List V) (x : V) → EndsWith (xs ++ x ∷ []) x
ends_with xs x =
    let place : length xs ≡ length (xs ++ x ∷ []) - 1 = omega (arith, length-append xs (x ∷ [])) in
    subst (λ n. slice_get (xs ++ x ∷ []) n ≡ Some x) place (get-last xs x)

-- the same where the history that is shown next is of the same store
pub turns : {V : Type 0} (h n : History V) (views : List View) (seat : ℕ) (v : View) → n.store ≡ h.store → AllOf h.store views → get_elem? views seat ≡ some v
    → (w : View) × AllOf n.store (set views seat w) × Looks v h n w
turns h n views seat v same all at =
    let kept : AllOf n.store (set views seat (knower n)) = subst (λ b. AllOf b (set views seat (knower n))) (sym same) (placed h.store views seat (knower n) all (λ _. ap store_name same)) in
    (knower n, kept, ((λ knows. all seat v at knows), refl))

-- the same where both are known only by what they are equal to
pub turns_to : {V : Type 0} (h before n next : History V) (views : List View) (seat : ℕ) (v : View) → h ≡ before → n ≡ next → next.store ≡ before.store
    → AllOf h.store views → get_elem? views seat ≡ some v → (w : View) × AllOf n.store (set views seat w) × Looks v h n w
turns_to {V} h before n next views seat v was now same = turns h n views seat v (ap (λ (s : History V). s.store) now ∙ (same ∙ sym (ap (λ (s : History V). s.store) was)))

pub joined : (b : Book) (views : List View) (w : View) → AllOf b views → (w.knows ≡ true → w.store ≡ store_name b) → AllOf b (views ++ w ∷ [])
joined b views w h fits seat v at knows =
    ⊎_elim (λ old. h seat v old knows) (λ (new : w ≡ v). subst (λ (u : View). u.store ≡ store_name b) new (fits (ap (λ (u : View). u.knows) new ∙ knows))) (at_snoc views w v seat at)

-- a note knows what the place knew that it was cut from
pub forks : (b : Book) (views : List View) (seat : ℕ) (v : View) → AllOf b views → get_elem? views seat ≡ some v → AllOf b (set views seat v ++ v ∷ [])
forks b views seat v h at = joined b (set views seat v) v (placed b views seat v h (h seat v at)) (h seat v at)

-- a place that takes in a note knows what the note knew
pub merges : (b : Book) (views : List View) (seat other : ℕ) (w : View) → AllOf b views → ¬ (other ≡ seat) → get_elem? (set views seat w) other ≡ some w
    → AllOf b (set (set views seat w) other newcomer)
merges b views seat other w h apart there =
    let fits : w.knows ≡ true → w.store ≡ store_name b = ⊎_elim (λ (t : (other ≡ seat) × (w ≡ w)). absurd (apart t.0)) (λ (t : (other ≢ seat) × (get_elem? views other ≡ some w)). h other w t.1) (at_set views seat other w w there) in
    placed b (set views seat w) other newcomer (placed b views seat w h fits) (λ knows. absurd (cc knows))
