-- What threads make of the numbers below a count.
use Rattle.std.specs.Prelude.{◌≡◌, ℕ, ◌<◌, List, length, map, slice_index_or, All, Option, Some, None}
use Rattle.sr_threads.specs.declared.taking.Done.{Done}

-- what a thread says of a number below count belongs to it
abbrev pub IsDone : {T : Type 0} → (ℕ → T → Type 0) → ℕ → Done T → Type 0
IsDone Belongs count one = (one.number < count) × Belongs one.number one.made

-- so it is with each of them
abbrev pub AreDone : {T : Type 0} → (ℕ → T → Type 0) → ℕ → List (Done T) → Type 0
AreDone Belongs count = All (IsDone Belongs count)

-- the numbers of which they speak, in order
abbrev pub numbers_of : {T : Type 0} → List (Done T) → List ℕ
numbers_of all = map (λ one. one.number) all

-- at place i stands nothing, or what belongs to i
abbrev pub IsAt : {T : Type 0} → (ℕ → T → Type 0) → ℕ → Option T → Type 0
IsAt Belongs i None = Unit {0}
IsAt Belongs i (Some made) = Belongs i made

-- so it is at each place, and each number below count has one
pub record AreAt {T : Type 0} (Belongs : ℕ → T → Type 0) (count : ℕ) (places : List (Option T)) : Type 0 where
  pub long : length places ≡ count
  pub each : (i : ℕ) → i < count → IsAt Belongs i (slice_index_or places i None)

-- none of them speaks of number i
abbrev pub AreSilentOn : {T : Type 0} → ℕ → List (Done T) → Type 0
AreSilentOn i = All (λ one. one.number ≡ i → ⊥)

-- there is nothing only at places of whose numbers none of them speaks
abbrev pub AreFilledBy : {T : Type 0} → List (Done T) → List (Option T) → Type 0
AreFilledBy all places = (i : ℕ) → slice_index_or places i None ≡ None → AreSilentOn i all

-- where something stands at a place, it stands there in order
abbrev pub AreTakenFrom : {T : Type 0} → List (Option T) → List T → Type 0
AreTakenFrom {T = T} places all = (i : ℕ) (one default : T) →
    i < length all → slice_index_or places i None ≡ Some one → slice_index_or all i default ≡ one
