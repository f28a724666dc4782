-- The history of a store, as a writer, a reader or a note has seen it.
use Rattle.std.specs.Prelude.{ℕ, ◌≡◌, ◌+◌, Bool, true, List, [], ◌∷◌, ◌++◌, slice_get, Some}
use mathlib.Core.List.{IsPrefix}
use Rattle.logbook.specs.Pages.{Book}
use Rattle.sr_store.specs.Lists.{EndsWith}

-- a store's versions in the order of their publishing, perhaps ended by the close mark
pub record History (V : Type 0) : Type 0 where
  pub store : Book
  pub versions : List V
  pub closed : Bool

-- the history with one more version
abbrev pub with_version : {V : Type 0} → History V → V → History V
with_version h v = record { store = h.store; versions = h.versions ++ v ∷ []; closed = h.closed }

-- the history ended by the close mark
abbrev pub with_mark : {V : Type 0} → History V → History V
with_mark h = record { store = h.store; versions = h.versions; closed = true }

-- one history is a prefix of another of the same store; nothing stands after a mark
pub record Begins {V : Type 0} (front whole : History V) : Type 0 where
  pub store : front.store ≡ whole.store
  pub versions : IsPrefix front.versions whole.versions
  pub closed : front.closed ≡ true → front ≡ whole

-- of two neighbours the second has the number after that of the first
abbrev pub NumbersRise : {V : Type 0} → (V → ℕ) → List V → Type 0
NumbersRise {V} number versions = (place : ℕ) (before after : V) → slice_get versions place ≡ Some before
    → slice_get versions (place + 1) ≡ Some after → number after ≡ number before + 1

-- this version has the number after that of the last
abbrev pub IsNext : {V : Type 0} → (V → ℕ) → List V → V → Type 0
IsNext {V} number versions version = (last : V) → EndsWith versions last → number version ≡ number last + 1
