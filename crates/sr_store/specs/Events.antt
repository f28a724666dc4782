-- A store as plain data: what happens to it, and what is so whatever happened.
use Rattle.std.specs.Prelude.{ℕ, ◌≡◌, ◌==◌, cond, true, false, List, [], ◌∷◌, ◌++◌, All, slice_get, Some}
use Rattle.logbook.specs.Pages.{Book}
use Rattle.sr_store.specs.Histories.{History, Begins, IsNext, NumbersRise, with_mark, with_version}

-- the writer publishes a version, the reader of a seat takes the writer's list or learns one that it was told, the
-- writer closes
pub data Event (V : Type 0) : Type 0 where
  Publish : V → Event V
  Grab : ℕ → Event V
  Learn : ℕ → History V → Event V
  Close : Event V

-- what a reader has: its list, and those that it was told
pub record Holder (V : Type 0) : Type 0 where
  pub list : History V
  pub told : List (History V)

-- the writer's list, all lists that it has had with this one, and what the reader of each seat has
pub record StoreState (V : Type 0) : Type 0 where
  pub list : History V
  pub lists : List (History V)
  pub reader : ℕ → Holder V

-- the list of a store that was just opened
abbrev pub first_list : {V : Type 0} → Book → V → History V
first_list store first = record { store = store; versions = first ∷ []; closed = false }

-- a store that was just opened: all have the list of the first version alone
abbrev pub opened_with : {V : Type 0} → Book → V → StoreState V
opened_with store first = record {
  list = first_list store first;
  lists = first_list store first ∷ [];
  reader = λ seat. record { list = first_list store first; told = first_list store first ∷ [] };
}

-- the writer's list is now this one
abbrev pub with_list : {V : Type 0} → StoreState V → History V → StoreState V
with_list s list = record { list = list; lists = s.lists ++ list ∷ []; reader = s.reader }

-- the reader of this seat has now this
abbrev pub seated : {V : Type 0} → StoreState V → ℕ → Holder V → StoreState V
seated s seat holder = record {
  list = s.list;
  lists = s.lists;
  reader = λ other. cond (other == seat) holder (s.reader other);
}

-- nothing is published after the mark, numbers go up by one, and a list that is learnt is one that the writer has or
-- had
abbrev pub CanHappen : {V : Type 0} → (V → ℕ) → StoreState V → Event V → Type 0
CanHappen number s (Publish version) = (s.list.closed ≡ false) × IsNext number s.list.versions version
CanHappen number s (Grab seat) = Unit {0}
CanHappen number s (Learn seat list) = (moment : ℕ) × (slice_get s.lists moment ≡ Some list)
CanHappen number s Close = s.list.closed ≡ false

-- the store after an event
abbrev pub after : {V : Type 0} → StoreState V → Event V → StoreState V
after s (Publish version) = with_list s (with_version s.list version)
after s (Grab seat) = seated s seat (record { list = s.list; told = (s.reader seat).told })
after s (Learn seat list) =
    seated s seat (record { list = (s.reader seat).list; told = (s.reader seat).told ++ list ∷ [] })
after s Close = with_list s (with_mark s.list)

-- the store after these events
abbrev pub after_all : {V : Type 0} → StoreState V → List (Event V) → StoreState V
after_all s [] = s
after_all s (event ∷ events) = after_all (after s event) events

-- these events can happen, one after the other
abbrev pub CanAllHappen : {V : Type 0} → (V → ℕ) → StoreState V → List (Event V) → Type 0
CanAllHappen number s [] = Unit {0}
CanAllHappen number s (event ∷ events) = CanHappen number s event × CanAllHappen number (after s event) events

-- numbers go up by one; what each reader has is a prefix of the writer's list, and of what it would grab; a list with
-- the mark is the writer's
pub record IsSoundStore {V : Type 0} (number : V → ℕ) (s : StoreState V) : Type 0 where
  pub numbers : NumbersRise number s.list.versions
  pub list : (seat : ℕ) → Begins (s.reader seat).list s.list
  pub told : (seat : ℕ) → All (λ told. Begins told s.list) (s.reader seat).told
  pub grabbed : (seat : ℕ) → All (λ told. Begins told ((after s (Grab seat)).reader seat).list) (s.reader seat).told
  pub ended : (seat : ℕ) → (s.reader seat).list.closed ≡ true → (s.reader seat).list ≡ s.list

-- each list only grew from one moment to another
abbrev pub Grows : {V : Type 0} → StoreState V → StoreState V → Type 0
Grows before now = Begins before.list now.list × ((seat : ℕ) → Begins (before.reader seat).list (now.reader seat).list)

-- whatever happened to a store, it is sound, and whatever happens then, its lists only grow
abbrev pub HistoriesGrow : {V : Type 0} → (V → ℕ) → Type 0
HistoriesGrow {V} number = (store : Book) (first : V) (events later : List (Event V))
    → CanAllHappen number (opened_with store first) events
    → CanAllHappen number (after_all (opened_with store first) events) later
    → IsSoundStore number (after_all (opened_with store first) events)
    × Grows (after_all (opened_with store first) events) (after_all (after_all (opened_with store first) events) later)
