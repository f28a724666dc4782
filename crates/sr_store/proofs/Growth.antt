-- Whatever happens to a store, its lists only grow.
use Rattle.std.proofs.Common.{◌≡◌, ℕ, zero, suc, ◌==◌, cond, Bool, true, false, List, [], ◌∷◌, length, All, Some, slice_get, refl, ap, sym, ◌∙◌, subst, arith, ⊎_elim}
use Rattle.std.proofs.lemmas.Bool.Decides.{nat_tests}
use Rattle.std.proofs.lemmas.List.Elements.{All-push, All-cons, All-nil}
use Rattle.logbook.specs.Pages.{Book}
use Rattle.sr_store.specs.Histories.{History, Begins, NumbersRise, with_mark, with_version}
use Rattle.sr_store.specs.Events.{Event, Publish, Grab, Learn, Close, Holder, StoreState, opened_with, with_list, seated, CanHappen, after, after_all, CanAllHappen, IsSoundStore, Grows, HistoriesGrow}
use Rattle.sr_store.proofs.Fronts.{prefix_self, prefix_trans}
use Rattle.sr_store.proofs.Numbers.{rise-push}
use Rattle.sr_seq.proofs.ListLemmas.{get-push}

module _ {V : Type 0} where
  pub begins-self : (h : History V) → Begins h h
  begins-self h = record { store = refl; versions = prefix_self h.versions; closed = λ _. refl }

  pub begins-trans : (a b c : History V) → Begins a b → Begins b c → Begins a c
  begins-trans a b c p q = record {
    store = p.store ∙ q.store;
    versions = prefix_trans a.versions b.versions c.versions p.versions q.versions;
    closed = λ (ends : a.closed ≡ true). let same = p.closed ends in same ∙ q.closed (sym (ap (λ h. h.closed) same) ∙ ends);
  }

  pub begins-version : (h : History V) (v : V) → h.closed ≡ false → Begins h (with_version h v)
  begins-version h v free = record { store = refl; versions = (v ∷ [], refl); closed = λ ends. absurd (cc (free, ends)) }

  pub begins-mark : (h : History V) → h.closed ≡ false → Begins h (with_mark h)
  begins-mark h free = record { store = refl; versions = prefix_self h.versions; closed = λ ends. absurd (cc (free, ends)) }

  -- what is so at each moment
  record Keeps (number : V → ℕ) (s : StoreState V) : Type 0 where
    numbers : NumbersRise number s.list.versions
    past : (moment : ℕ) (list : History V) → slice_get s.lists moment ≡ Some list → Begins list s.list
    list : (seat : ℕ) → Begins (s.reader seat).list s.list
    told : (seat : ℕ) → All (λ told. Begins told s.list) (s.reader seat).told

  only : (x : History V) (moment : ℕ) (list : History V) → slice_get (x ∷ []) moment ≡ Some list → x ≡ list
  only x zero list at = cc at
  only x (suc moment) list at = absurd (cc at)

  one-rises : (number : V → ℕ) (v : V) → NumbersRise number (v ∷ [])
  one-rises number v zero before after at then = absurd (cc then)
  one-rises number v (suc place) before after at then = absurd (cc at)

  keeps-opened : (number : V → ℕ) (store : Book) (first : V) → Keeps number (opened_with store first)
  keeps-opened number store first =
      let s = opened_with store first in
      record {
        numbers = one-rises number first;
        past = λ moment list at. subst (λ h. Begins h s.list) (only s.list moment list at) (begins-self s.list);
        list = λ seat. begins-self s.list;
        told = λ seat. All-cons (λ (h : History V). Begins h s.list) s.list [] (begins-self s.list) (All-nil (λ (h : History V). Begins h s.list));
      }

  -- the writer's list grows
  keeps-written : (number : V → ℕ) (s : StoreState V) (h : History V) → Keeps number s → NumbersRise number h.versions → Begins s.list h
      → Keeps number (with_list s h)
  keeps-written number s h k rise p = record {
    numbers = rise;
    past = λ moment list at. ⊎_elim
        (λ (old : slice_get s.lists moment ≡ Some list). begins-trans list s.list h (k.past moment list old) p)
        (λ (new : (moment ≡ length s.lists) × (h ≡ list)). subst (λ l. Begins l h) new.1 (begins-self h))
        (get-push s.lists h moment list at);
    list = λ seat. begins-trans (s.reader seat).list s.list h (k.list seat) p;
    told = λ seat place d less. begins-trans _ s.list h (k.told seat place d less) p;
  }

  -- one of two holders, by a test
  either-holder : (P : Holder V → Type 0) (b : Bool) (x y : Holder V) → P x → P y → P (cond b x y)
  either-holder P true x y p q = p
  either-holder P false x y p q = q

  keeps-seated : (number : V → ℕ) (s : StoreState V) (seat : ℕ) (x : Holder V) → Keeps number s → Begins x.list s.list → All (λ told. Begins told s.list) x.told
      → Keeps number (seated s seat x)
  keeps-seated number s seat x k list told = record {
    numbers = k.numbers;
    past = k.past;
    list = λ other. either-holder (λ (y : Holder V). Begins y.list s.list) (other == seat) x (s.reader other) list (k.list other);
    told = λ other. either-holder (λ (y : Holder V). All (λ told. Begins told s.list) y.told) (other == seat) x (s.reader other) told (k.told other);
  }

  keeps-after : (number : V → ℕ) (s : StoreState V) (event : Event V) → CanHappen number s event → Keeps number s → Keeps number (after s event)
  keeps-after number s (Publish v) can k = keeps-written number s (with_version s.list v) k (rise-push number s.list.versions v k.numbers can.1) (begins-version s.list v can.0)
  keeps-after number s (Grab seat) can k = keeps-seated number s seat _ k (begins-self s.list) (k.told seat)
  keeps-after number s (Learn seat list) can k =
      keeps-seated number s seat _ k (k.list seat) (All-push (λ (h : History V). Begins h s.list) (s.reader seat).told list (k.told seat) (k.past can.0 list can.1))
  keeps-after number s Close can k = keeps-written number s (with_mark s.list) k k.numbers (begins-mark s.list can)

  grows-seated : (s : StoreState V) (seat : ℕ) (x : Holder V) → Begins (s.reader seat).list x.list → (b : Bool) (other : ℕ) → (other == seat) ≡ b
      → Begins (s.reader other).list (cond b x (s.reader other)).list
  grows-seated s seat x p true other is = let same : other ≡ seat = grind (arith, nat_tests) in subst (λ n. Begins (s.reader n).list x.list) (sym same) p
  grows-seated s seat x p false other is = begins-self (s.reader other).list

  grows-after : (number : V → ℕ) (s : StoreState V) (event : Event V) → CanHappen number s event → Keeps number s → Grows s (after s event)
  grows-after number s (Publish v) can k = (begins-version s.list v can.0, λ seat. begins-self (s.reader seat).list)
  grows-after number s (Grab seat) can k =
      (begins-self s.list, λ other. grows-seated s seat _ (k.list seat) (other == seat) other refl)
  grows-after number s (Learn seat list) can k =
      (begins-self s.list, λ other. grows-seated s seat _ (begins-self (s.reader seat).list) (other == seat) other refl)
  grows-after number s Close can k = (begins-mark s.list can, λ seat. begins-self (s.reader seat).list)

  keeps-all : (number : V → ℕ) (s : StoreState V) (events : List (Event V)) → CanAllHappen number s events → Keeps number s → Keeps number (after_all s events)
  keeps-all number s [] can k = k
  keeps-all number s (event ∷ events) can k = keeps-all number (after s event) events can.1 (keeps-after number s event can.0 k)

  grows-all : (number : V → ℕ) (s : StoreState V) (events : List (Event V)) → CanAllHappen number s events → Keeps number s → Grows s (after_all s events)
  grows-all number s [] can k = (begins-self s.list, λ seat. begins-self (s.reader seat).list)
  grows-all number s (event ∷ events) can k =
      let one = grows-after number s event can.0 k in
      let rest = grows-all number (after s event) events can.1 (keeps-after number s event can.0 k) in
      (begins-trans _ _ _ one.0 rest.0, λ seat. begins-trans _ _ _ (one.1 seat) (rest.1 seat))

  -- the reader of the seat that grabs has the writer's list
  grabbed-at : (s : StoreState V) (seat : ℕ) (b : Bool) (x : Holder V) → (seat == seat) ≡ b → x.list ≡ s.list
      → (cond b x (s.reader seat)).list ≡ s.list
  grabbed-at s seat true x is same = same
  grabbed-at s seat false x is same = let no : ⊥ = grind (arith, nat_tests) in absurd no

  sound : (number : V → ℕ) (s : StoreState V) → Keeps number s → IsSoundStore number s
  sound number s k = record {
    numbers = k.numbers;
    list = k.list;
    told = k.told;
    grabbed = λ seat.
        let list = grabbed-at s seat (seat == seat) (record { list = s.list; told = (s.reader seat).told }) refl refl in
        subst (λ h. All (λ told. Begins told h) (s.reader seat).told) (sym list) (k.told seat);
    ended = λ seat ends. (k.list seat).closed ends;
  }

  pub histories-grow : (number : V → ℕ) → HistoriesGrow number
  histories-grow number store first events later can next =
      let k = keeps-all number (opened_with store first) events can (keeps-opened number store first) in
      (sound number (after_all (opened_with store first) events) k, grows-all number (after_all (opened_with store first) events) later next k)
