-- What the loops over watchers keep.
use Rattle.std.specs.Prelude.{ℕ, ◌≡◌, ◌+◌, ◌<◌, ◌≤◌, ◌^◌, List, [], ◌++◌, Bool, true, All, Vec, vec_len, vec_capacity}
use Rattle.std.specs.declared.alloc.Global.{Global}
use Rattle.std.specs.Arc.{arc_value}
use Rattle.sr_store.specs.declared.reader.Reader.{Reader}
use Rattle.sr_watch.specs.declared.inspect.Round.{Round}
use Rattle.sr_watch.specs.declared.task.Task.{Task}
use Rattle.sr_watch.specs.declared.seated.Seated.{Seated}
use Rattle.sr_watch.specs.declared.apart.Apart.{Apart}
use Rattle.sr_watch.specs.declared.stock.Stock.{Stock}
use Rattle.sr_watch.specs.Rounds.{Inspection}
use Rattle.sr_watch.specs.Starts.{SeatedFrom}
use Rattle.sr_watch.specs.Joins.{Back, SeatedRounds, ApartRounds}

-- an empty list that has room for this many items
abbrev pub IsRoomFor : {A : Type 0} → ℕ → Vec A Global → Type 0
IsRoomFor count room = (room.items ≡ []) × (count ≤ vec_capacity room)

-- the numbers of the watchers that follow this task's fit a u32, and so do the numbers of their rounds
abbrev pub AreFew : {I : Type 0} → Task I → ℕ → Type 0
AreFew task count = (task.watcher + count < 2 ^ 32) × (task.first + task.rounds ≤ 2 ^ 32)

-- gates, versions and room for these many watchers with a reader, and those many on this version
pub record IsStock {V W X G : Type 0} (given others : ℕ) (v : V) (s : Stock V W X G) : Type 0 where
  pub gates : vec_len s.gates ≡ given
  pub outlooks : vec_len s.outlooks ≡ others
  pub versions : All (λ o. arc_value o.version ≡ v) s.outlooks.items
  pub seated : IsRoomFor given s.seated
  pub apart : IsRoomFor others s.apart
  pub room : IsRoomFor given s.room

-- watchers were started at all readers before these
pub record SeatedSoFar {V I : Type 0} (task : Task I)
    (readers rest : List (Reader V)) (plans : List (Seated V I)) : Type 0 where
  pub past : List (Reader V)
  pub is : readers ≡ past ++ rest
  pub seated : SeatedFrom task past plans

-- all watchers before these were joined and gave back these readers, and, where memory didn't run out, these rounds
pub record BackSoFar {V I O : Type 0} (how : Inspection V I O) (plans rest : List (Seated V I))
    (back : List (Reader V)) (whole : Bool) (rounds : List (Round O)) : Type 0 where
  pub past : List (Seated V I)
  pub is : plans ≡ past ++ rest
  pub back_is : Back past back
  pub rounds_are : whole ≡ true → SeatedRounds how past back rounds

-- all watchers before these were joined, and gave back, where memory didn't run out, these rounds
pub record ApartSoFar {V I O : Type 0} (how : Inspection V I O) (plans rest : List (Apart V I))
    (whole : Bool) (rounds : List (Round O)) : Type 0 where
  pub past : List (Apart V I)
  pub is : plans ≡ past ++ rest
  pub rounds_are : whole ≡ true → ApartRounds how past rounds
