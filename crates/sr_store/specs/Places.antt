-- The rule of a store's places: each place that knows its store is of the store whose history is shown.
use Rattle.std.specs.Prelude.{ℕ, ◌≡◌, true, false, List}
use mathlib.Core.Option.{some}
use lib.ListN.{get_elem?}
use Rattle.logbook.specs.Pages.{Book}
use Rattle.sr_store.specs.declared.place.StoreName.{StoreName}
use Rattle.sr_store.specs.declared.place.View.{View}
use Rattle.sr_store.specs.Histories.{History}

-- the numbers by which a place names a store
abbrev pub store_name : Book → StoreName
store_name b = record { number = b.number; log_name = b.log_name; cells_name = b.cells_name }

-- a place that knows nothing yet
abbrev pub newcomer : View
newcomer = record { knows = false; store = record { number = 0; log_name = 0; cells_name = 0 }; closed = false }

-- a place that saw this history
abbrev pub knower : {V : Type 0} → History V → View
knower h = record { knows = true; store = store_name h.store; closed = h.closed }

-- the place knows that it is of this store
abbrev pub KnowsStore : View → Book → Type 0
KnowsStore v store = (v.knows ≡ true) × (v.store ≡ store_name store)

-- each place that knows its store is of this one
abbrev pub AllOf : Book → List View → Type 0
AllOf store views = (seat : ℕ) (v : View) → get_elem? views seat ≡ some v → v.knows ≡ true → v.store ≡ store_name store

-- a look: what the place knew of its store is so, and now it knows what is shown
abbrev pub Looks : {V : Type 0} → View → History V → History V → View → Type 0
Looks v before after w = (v.knows ≡ true → v.store ≡ store_name before.store) × (w ≡ knower after)
