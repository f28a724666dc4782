-- The readers that a store gives.
use Rattle.std.specs.Prelude.{◌≡◌, ◌+◌, ℕ, true, List, [], ◌∷◌}
use Rattle.std.specs.Option.{IsSomeAnd}
use Rattle.left_right.specs.Sides.{view}
use Rattle.logbook.specs.Pages.{Book}
use Rattle.sr_store.specs.declared.reader.Reader.{Reader}
use Rattle.sr_store.specs.Histories.{History}

-- the reader has seen and was told this history, and took no turn yet
abbrev pub IsSeat : {V : Type 0} → History V → Reader V → Type 0
IsSeat list r = (r.list ≡ list) × (r.told ≡ list) × (r.turns ≡ 0) × (r.refused ≡ 0)

-- both have the same place in the list of readers that one store gave
abbrev pub SameSeat : {V : Type 0} → Reader V → Reader V → Type 0
SameSeat a b = (a.list.store ≡ b.list.store) × (a.seat ≡ b.seat)

-- the reader's last turn saw its store's list with the close mark
abbrev pub SawMark : {V : Type 0} → Reader V → Type 0
SawMark r = IsSomeAnd r.place (λ p. (view p.place).closed ≡ true)

-- the readers are of this store, and their seats count up from this one
abbrev pub SeatsFrom : {V : Type 0} → Book → ℕ → List (Reader V) → Type 0
SeatsFrom store seat [] = Unit {0}
SeatsFrom store seat (r ∷ readers) = (r.list.store ≡ store) × (r.seat ≡ seat) × SeatsFrom store (seat + 1) readers
