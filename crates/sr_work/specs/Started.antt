-- The record of the watch or the hold that runs.
use Rattle.std.specs.Prelude.{◌≡◌, ◌≤◌, List, [], ◌∷◌, All, length}
use mathlib.Core.List.{IsPrefix}
use Rattle.sr_repair.specs.Version.{NumberedNet}
use Rattle.sr_store.specs.declared.reader.Reader.{Reader}
use Rattle.sr_store.specs.Histories.{History}
use Rattle.sr_store.specs.Seats.{SeatsFrom}
use Rattle.sr_watch.specs.declared.task.Rota.{Rota}
use Rattle.sr_watch.specs.Starts.{Plans, Started, Holds}
use Rattle.sr_work.specs.declared.counting.Counting.{Counting}
use Rattle.sr_model.specs.declared.limits.TheConstants.{MOST_ROUNDS}
use Rattle.sr_work.specs.Watched.{Watched, AreNumberedFrom}

-- its watchers, and the rounds of each
abbrev pub rota_of : Watched → Rota
rota_of watched = record { watchers = watched.watchers; rounds = watched.rounds }

-- the reader has seen these versions and was told them, and took no turn yet
abbrev pub IsPlaced : List NumberedNet → Reader NumberedNet → Type 0
IsPlaced versions reader =
    (reader.list.versions ≡ versions) × IsPrefix versions reader.told.versions × (reader.turns ≡ 0)

-- the watch was started at all readers that were given of the store with this list, when the first version alone was
-- in it
pub record WasStarted (plans : Plans NumberedNet Counting) (list : History NumberedNet)
    (first : NumberedNet) (watched : Watched) : Type 0 where
  pub inspect : Counting
  pub readers : List (Reader NumberedNet)
  pub started : Started inspect (rota_of watched) readers first plans
  pub placed : All (IsPlaced (first ∷ [])) readers
  pub seats : SeatsFrom list.store 0 readers
  pub given_is : length readers ≡ watched.given
  pub versions : list.versions ≡ watched.versions
  pub begins : IsPrefix (first ∷ []) watched.versions
  pub numbers : AreNumberedFrom first.number watched.versions
  pub few : watched.rounds ≤ MOST_ROUNDS

-- the hold was started on this version
pub record HoldsVersion (plans : Plans NumberedNet Counting) (version : NumberedNet) : Type 0 where
  pub inspect : Counting
  pub holds : Holds inspect version plans
