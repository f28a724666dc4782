-- What all rounds of one watcher leave.
use Rattle.std.specs.Prelude.{◌≡◌, ◌+◌, List, IfOk, length}
use Rattle.std.specs.List.Sorted.{IsNonDecreasingBy}
use Rattle.sr_store.specs.Counts.{counted}
use Rattle.sr_store.specs.Histories.{Begins}
use Rattle.sr_store.specs.declared.reader.Reader.{Reader}
use Rattle.sr_watch.specs.declared.inspect.Round.{Round}
use Rattle.sr_watch.specs.declared.task.Task.{Task}
use Rattle.sr_watch.specs.declared.seated.Finished.{Finished}
use Rattle.sr_watch.specs.declared.apart.Rounds.{Rounds}
use Rattle.sr_watch.specs.Rounds.{Inspection, Chain, Repeats}

-- all rounds of a task, made at a reader that was so at the start and so at the end; the numbers of the rounds don't
-- fall
pub record Took {V I O : Type 0} (how : Inspection V I O) (task : Task I)
    (start end : Reader V) (rounds : List (Round O)) : Type 0 where
  pub chain : Chain how task task.first start.list end.list rounds
  pub count_is : length rounds ≡ task.rounds
  pub turns : end.turns ≡ counted (start.turns + task.rounds)
  pub rising : IsNonDecreasingBy (λ r. r.number) rounds

-- the reader at the end has the same seat at the same store, and its list begins with the list at the start
pub record Kept {V : Type 0} (start end : Reader V) : Type 0 where
  pub list : Begins start.list end.list
  pub seat : end.seat ≡ start.seat

-- what a watcher with a reader hands back: that reader, and its rounds where memory didn't run out
pub record Made {V I O : Type 0} (how : Inspection V I O) (task : Task I)
    (start : Reader V) (done : Finished V O) : Type 0 where
  pub kept : Kept start done.reader
  pub took : IfOk done.result (λ v. Took how task start done.reader v.items)

-- all rounds of a task, made on one version
pub record Saw {V I O : Type 0} (how : Inspection V I O) (task : Task I) (v : V)
    (rounds : List (Round O)) : Type 0 where
  pub all : Repeats how task task.first v rounds
  pub count_is : length rounds ≡ task.rounds

-- what a watcher without a reader hands back: its rounds where memory didn't run out
pub record Alone {V I O : Type 0} (how : Inspection V I O) (task : Task I)
    (v : V) (done : Rounds O) : Type 0 where
  pub saw : IfOk done.result (λ rounds. Saw how task v rounds.items)
