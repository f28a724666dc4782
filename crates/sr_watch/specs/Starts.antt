-- What a watch is given.
use Rattle.std.specs.Prelude.{ℕ, ◌≡◌, ◌+◌, List, [], ◌∷◌, length}
use Rattle.sr_store.specs.declared.reader.Reader.{Reader}
use Rattle.sr_watch.specs.declared.task.Rota.{Rota}
use Rattle.sr_watch.specs.declared.task.Task.{Task}
use Rattle.sr_watch.specs.declared.seated.Seated.{Seated}
use Rattle.sr_watch.specs.declared.apart.Apart.{Apart}

-- the watchers that have a reader, and those that have none
pub record Plans (V I : Type 0) : Type 0 where
  pub seated : List (Seated V I)
  pub apart : List (Apart V I)

-- a watcher of this number is asked for rounds numbered from 1
abbrev pub task_of : {I : Type 0} → I → ℕ → ℕ → Task I
task_of inspect rounds watcher = record { inspect = inspect; watcher = watcher; first = 1; rounds = rounds }

-- the same is asked of the watcher of the next number
abbrev pub next_task : {I : Type 0} → Task I → Task I
next_task task = record task { watcher = task.watcher + 1 }

-- the plan has this task, and this reader
abbrev pub IsSeated : {V I : Type 0} → Task I → Reader V → Seated V I → Type 0
IsSeated task r p = (p.task ≡ task) × (p.start.value ≡ r)

-- the plan has this task, and this version
abbrev pub IsApart : {V I : Type 0} → Task I → V → Apart V I → Type 0
IsApart task v p = (p.task ≡ task) × (p.version.value ≡ v)

-- a watcher at each of these readers, in their order: the first has this task, and each later one the next
abbrev pub SeatedFrom : {V I : Type 0} → Task I → List (Reader V) → List (Seated V I) → Type 0
SeatedFrom task [] [] = Unit {0}
SeatedFrom task [] (p ∷ ps) = ⊥
SeatedFrom task (r ∷ rs) [] = ⊥
SeatedFrom task (r ∷ rs) (p ∷ ps) = IsSeated task r p × SeatedFrom (next_task task) rs ps

-- watchers on this version: the first has this task, and each later one the next
abbrev pub ApartFrom : {V I : Type 0} → Task I → V → List (Apart V I) → Type 0
ApartFrom task v [] = Unit {0}
ApartFrom task v (p ∷ ps) = IsApart task v p × ApartFrom (next_task task) v ps

-- the rota's watchers: the first of them at these readers, and those beyond the readers on this version
pub record Started {V I : Type 0} (inspect : I) (rota : Rota)
    (readers : List (Reader V)) (v : V) (w : Plans V I) : Type 0 where
  pub seated : SeatedFrom (task_of inspect rota.rounds 1) readers w.seated
  pub apart : ApartFrom (task_of inspect rota.rounds (length readers + 1)) v w.apart
  pub all : length readers + length w.apart ≡ rota.watchers

-- one watcher, of number 0, with one round, of number 0, on this version
pub record Holds {V I : Type 0} (inspect : I) (v : V) (w : Plans V I) : Type 0 where
  pub none : w.seated ≡ []
  pub plan : Apart V I
  pub one : w.apart ≡ plan ∷ []
  pub is : IsApart (record { inspect = inspect; watcher = 0; first = 0; rounds = 1 }) v plan
