-- The links of a set.
use Rattle.std.specs.Prelude.{◌≡◌, ◌≢◌, ◌↔◌, ℕ, ◌<◌, ◌≤◌, ◌⊎◌, Bool, true, List, length, slice_index_or}
use Rattle.std.specs.List.{AllPairs}
use Rattle.sr_model.specs.declared.link.LinkNo.{LinkNo}
use Rattle.sr_model.specs.Graph.{has}

-- number i of the list
abbrev pub number_at : List LinkNo → ℕ → ℕ
number_at links i = (slice_index_or links i (record { 0 = 0 })).0

-- the list names link l
abbrev pub IsInList : List LinkNo → ℕ → Type 0
IsInList links l = (i : ℕ) × (i < length links) × (number_at links i ≡ l)

-- link l lies from place i to below place j
abbrev pub IsInRange : ℕ → ℕ → ℕ → Type 0
IsInRange i j l = (i ≤ l) × (l < j)

-- no two places of the list have one link
abbrev pub DifferEach : List LinkNo → Type 0
DifferEach links = AllPairs (λ (k l : LinkNo). k.0 ≢ l.0) links

-- each link of the list is below all later ones
abbrev pub AscendEach : List LinkNo → Type 0
AscendEach links = AllPairs (λ (k l : LinkNo). k.0 < l.0) links

-- the list has the links of the set, each once, and no others
pub record AreMembers (set : List Bool) (links : List LinkNo) : Type 0 where
  pub each : (i : ℕ) → i < length links → has set (number_at links i) ≡ true
  pub all : (l : ℕ) → has set l ≡ true → (i : ℕ) × (i < length links) × (number_at links i ≡ l)
  pub once : DifferEach links

-- the set after is the set before with those links of which the fact holds
pub record IsWidened (before : List Bool) (Fact : ℕ → Type 0) (after : List Bool) : Type 0 where
  pub long : length after ≡ length before
  pub each : (l : ℕ) → l < length before → (has after l ≡ true) ↔ ((has before l ≡ true) ⊎ Fact l)
