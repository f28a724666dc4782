-- What the end of a store shows.
use Rattle.std.specs.Prelude.{◌≡◌, ℕ, List, [], ◌∷◌, ◌++◌, ◌+◌, Bool, true}
use Rattle.std.specs.List.{AllZip}
use Rattle.sr_store.specs.declared.reader.Reader.{Reader}
use Rattle.sr_store.specs.Histories.{History, Begins}
use Rattle.sr_store.specs.Seats.{SameSeat, SawMark}

-- the sum of these readers' turns
abbrev pub turns_of : {V : Type 0} → List (Reader V) → ℕ
turns_of [] = 0
turns_of (r ∷ readers) = r.turns + turns_of readers

-- one entry for each reader; where it is true, the reader's list is a prefix of this history
abbrev pub Ended : {V : Type 0} → History V → List (Reader V) → List Bool → Type 0
Ended list [] [] = Unit {0}
Ended list [] (e ∷ entries) = ⊥
Ended list (r ∷ readers) [] = ⊥
Ended list (r ∷ readers) (e ∷ entries) = (e ≡ true → Begins r.list list) × Ended list readers entries

-- one entry for each reader; where it is true, the reader saw the close mark
abbrev pub SawMarks : {V : Type 0} → List (Reader V) → List Bool → Type 0
SawMarks [] [] = Unit {0}
SawMarks [] (e ∷ entries) = ⊥
SawMarks (r ∷ readers) [] = ⊥
SawMarks (r ∷ readers) (e ∷ entries) = (e ≡ true → SawMark r) × SawMarks readers entries

-- these readers came back after their last turns, which saw the close mark where the entry is true
abbrev pub HaveEnded : {V : Type 0} → List (Reader V) → List (Reader V) → List Bool → Type 0
HaveEnded readers back entries = AllZip SameSeat readers back × SawMarks back entries

-- the last turns were taken of all readers before these, which came back
pub record EndedSoFar {V : Type 0} (list : History V)
    (all rest back : List (Reader V)) (entries : List Bool) : Type 0 where
  pub past : List (Reader V)
  pub whole : all ≡ past ++ rest
  pub ends : Ended list past entries
  pub turned : HaveEnded past back entries
