-- What the rounds of a watcher show.
use Rattle.std.specs.Prelude.{ℕ, ◌≡◌, ◌+◌, List, [], ◌∷◌}
use Rattle.sr_store.specs.Lists.{EndsWith}
use Rattle.sr_store.specs.Histories.{History, Begins}
use Rattle.sr_watch.specs.declared.inspect.Round.{Round}
use Rattle.sr_watch.specs.declared.task.Task.{Task}

-- how versions are inspected: the number of a version, and what an inspector's result means of a version
pub record Inspection (V I O : Type 0) : Type 1 where
  pub number_of : V → ℕ
  pub means : I → V → O → Type 0

-- versions are inspected by these
abbrev pub inspection_by : {V I O : Type 0} → (V → ℕ) → (I → V → O → Type 0) → Inspection V I O
inspection_by number_of means = record { number_of = number_of; means = means }

-- the task's round of this number names this version, and holds its inspection
abbrev pub IsRound : {V I O : Type 0} → Inspection V I O → Task I → ℕ → V → Round O → Type 0
IsRound how task round v r =
    (r.watcher ≡ task.watcher) × (r.round ≡ round) × (r.number ≡ how.number_of v) × how.means task.inspect v r.out

-- it names the last version of this list, and holds its inspection
abbrev pub IsOf : {V I O : Type 0} → Inspection V I O → Task I → ℕ → History V → Round O → Type 0
IsOf {V = V} how task round list r = (v : V) × EndsWith list.versions v × IsRound how task round v r

-- the task's rounds from this number on, between a list at the start and one at the end: each is of a list that begins
-- with the one before it, and the list at the end begins with the last of these
abbrev pub Chain : {V I O : Type 0}
    → Inspection V I O → Task I → ℕ → History V → History V → List (Round O) → Type 0
Chain how task round start end [] = Begins start end
Chain {V = V} how task round start end (r ∷ rs) =
    (list : History V) × Begins start list × IsOf how task round list r × Chain how task (round + 1) list end rs

-- the task's rounds from this number on, all on this version
abbrev pub Repeats : {V I O : Type 0} → Inspection V I O → Task I → ℕ → V → List (Round O) → Type 0
Repeats how task round v [] = Unit {0}
Repeats how task round v (r ∷ rs) = IsRound how task round v r × Repeats how task (round + 1) v rs
