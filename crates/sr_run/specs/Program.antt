-- What the program does to its source and its sink, and the status that it ends with.
use Rattle.std.specs.Prelude.{◌≡◌, ℕ, ◌+◌, ◌<◌, ◌≤◌, ◌⊎◌, Bool, List, [], All, length, String, Some, None}
use Rattle.std.specs.declared.alloc.Global.{Global}
use Rattle.std.specs.Io.KnownBytes.{Consumes, Appends, IsAtEnd}
use Rattle.sr_base.specs.Faults.{Rose}
use Rattle.sr_repair.specs.Delivery.{EachRepairDelivers}
use Rattle.sr_engine.specs.Lines.{script_of, most_bytes}
use Rattle.sr_engine.specs.Replies.{Answered, Script}
use Rattle.sr_engine.specs.Endings.{Devices, BeginsOutput, status_of}
use Rattle.sr_engine.specs.declared.end.End.{End}
use Rattle.sr_engine.specs.declared.end.End.TheVariants.{Done, ReadFailed, WriteFailed, Memory, TooMuch}
use Rattle.sr_make.specs.Making.{MakingShows}
use Rattle.sr_make.specs.Script.{made_script}
use Rattle.sr_words.specs.declared.task.AskedTask.{AskedTask}
use Rattle.sr_words.specs.declared.task.AskedTask.TheVariants as task
use Rattle.sr_words.specs.Tasks.{Asked, IsTaskOf, BeginWithMake}
use Rattle.sr_store.specs.declared.usage.Usage.{Usage}
use Rattle.sr_run.specs.Domain.{Domain, opening_domain}
use Rattle.sr_run.specs.Session.{Answers, conduct}
use Rattle.sr_run.specs.Usage.{Lent, unused, ServesWatches}
use Rattle.sr_run.specs.Searches.{CountsSearches}

-- an execution of the program: the devices before and after it, the bytes that it took, those that it wrote, the usage
-- of stores before and after it, and what the counter of searches stood at before and after it
pub record Execution : Type 0 where
  pub old : Devices
  pub new : Devices
  pub taken : List ℕ
  pub out : List ℕ
  pub used : Usage
  pub usage : Usage
  pub counted : ℕ
  pub count : ℕ

-- the count of failed reads stayed
abbrev pub ReadsWell : Execution → Type 0
ReadsWell run = run.new.read_faults ≡ run.old.read_faults

-- the count of failed writes stayed
abbrev pub WritesWell : Execution → Type 0
WritesWell run = run.new.write_faults ≡ run.old.write_faults

-- the count of failed reads rose, or stands at its last value
abbrev pub FailsReading : Execution → Type 0
FailsReading run = Rose run.old.read_faults run.new.read_faults

-- the count of failed writes rose, or stands at its last value
abbrev pub FailsWriting : Execution → Type 0
FailsWriting run = Rose run.old.write_faults run.new.write_faults

-- in the net of each accepted commit every repair of every case has a stack, and delivers under it
abbrev pub EachDelivers : Domain → Type 0
EachDelivers domain = All EachRepairDelivers domain.nets

-- the script was read to its end, both counts of faults stayed, all of it was answered, every repair of each accepted
-- net has a stack and delivers under it, the usage, unless it was used before, shows what the watches took, and no more
-- searches were counted than the commits and the questions for certificates may take
pub record AnswersScript (run : Execution) (refused : Bool) : Type 0 where
  pub at_end : IsAtEnd run.new.left
  pub few : length run.taken ≤ most_bytes
  pub final : Domain
  pub script : Script conduct opening_domain run.taken run.out refused final
  pub delivers : EachDelivers final
  pub serves : run.used ≡ unused → ServesWatches final.totals run.usage
  pub searches : CountsSearches final run.counted run.count
  pub reads : ReadsWell run
  pub writes : WritesWell run

-- all lines that end within these first bytes were answered
abbrev pub AnswersLines : Execution → List ℕ → Type 0
AnswersLines run bytes = Answered Answers opening_domain bytes run.out

-- what was written is a beginning of what may be answered to some first lines, or to the whole script
abbrev pub BeginsToAnswer : Execution → Type 0
BeginsToAnswer run = BeginsOutput conduct opening_domain run.new.left run.taken run.out

-- how a run over a script ended says of it: the script was read to its end; the count of failed reads rose, or stands
-- at its last value, and all lines before were answered; the count of failed writes did so, or memory ran out, and a
-- beginning was written; or there are too many bytes, and the lines within the first of them were answered
abbrev pub EndShows : Execution → End → Type 0
EndShows run (Done refused) = AnswersScript run refused
EndShows run ReadFailed = AnswersLines run run.taken × FailsReading run × WritesWell run
EndShows run WriteFailed = BeginsToAnswer run × FailsWriting run × ReadsWell run
EndShows run Memory = BeginsToAnswer run × ReadsWell run × WritesWell run
EndShows run TooMuch =
    (most_bytes < length run.taken) × AnswersLines run (script_of run.taken) × ReadsWell run × WritesWell run

-- nothing was taken, the count of failed reads, the usage and the counter of searches stayed, and the ending says how
-- much of the script was written
pub record MakesScript (nodes start : ℕ) (run : Execution) (end : End) : Type 0 where
  pub taken : run.taken ≡ []
  pub reads : ReadsWell run
  pub usage : run.usage ≡ run.used
  pub searches : run.count ≡ run.counted
  pub shows : MakingShows (made_script nodes start) run.out run.old.write_faults run.new.write_faults end

-- what the ending of a task says of the run, which answers a script or makes one
abbrev pub TaskShows : AskedTask → Execution → End → Type 0
TaskShows task.Run run end = EndShows run end
TaskShows (task.Make nodes start) run end = MakesScript nodes start run end

-- nothing was taken and nothing written, and both counts of faults, the usage and the counter of searches stayed
pub record DoesNothing (run : Execution) : Type 0 where
  pub taken : run.taken ≡ []
  pub out : run.out ≡ []
  pub reads : ReadsWell run
  pub writes : WritesWell run
  pub usage : run.usage ≡ run.used
  pub searches : run.count ≡ run.counted

-- the words ask for this task, and the status tells how it ended: 0 or 1 where it was done, by whether a line was
-- refused, 3 where a read failed, 4 where a write failed, 5 where memory ran out, 6 where there are too many
-- bytes
pub record DoesTask (words : List (String Global)) (run : Execution) (status : ℕ) : Type 0 where
  pub asked : AskedTask
  pub asks : Asked words asked
  pub end : End
  pub is : status ≡ status_of end
  pub shows : TaskShows asked run end

-- the task that the words ask for was done as far as the status tells; or they ask for none, the status is 2, and
-- nothing was done; or they begin with `make`, memory ran out before it was known what they ask for, the status is
-- 5, and nothing was done
abbrev pub StatusShows : List (String Global) → Execution → ℕ → Type 0
StatusShows words run status =
    DoesTask words run status
    ⊎ (IsTaskOf words None × (status ≡ 2) × DoesNothing run)
    ⊎ (BeginWithMake words × (status ≡ status_of Memory) × DoesNothing run)

-- an execution that took and wrote these bytes, was lent this and gave that back
abbrev pub execution_of : Devices → Devices → List ℕ → List ℕ → Lent → Lent → Execution
execution_of old new taken out lent back = record {
  old = old;
  new = new;
  taken = taken;
  out = out;
  used = lent.usage;
  usage = back.usage;
  counted = lent.searches;
  count = back.searches;
}

-- these bytes were taken from the source, none past the first one too many, those were appended to the sink, and
-- the status says what they are, and what the usage and the counter of searches show
pub record RunsTo (words : List (String Global)) (old new : Devices) (lent back : Lent) (status : ℕ) : Type 0 where
  pub taken : List ℕ
  pub took : Consumes old.left new.left taken
  pub few : length taken ≤ most_bytes + 1
  pub out : List ℕ
  pub appended : Appends old.held new.held out
  pub shows : StatusShows words (execution_of old new taken out lent back) status

-- where the words ask for `run`, and the source tells what it has left: a script that isn't too long is answered
-- to its end, or memory runs out, unless a count of faults rose or stands at its last value
abbrev pub AnswersThrough : List (String Global) → Devices → Devices → ℕ → Type 0
AnswersThrough words old new status = (bytes : List ℕ) → old.left ≡ Some bytes
    → Asked words task.Run → length bytes ≤ most_bytes
    → ¬ Rose old.read_faults new.read_faults → ¬ Rose old.write_faults new.write_faults
    → (status ≡ 0) ⊎ (status ≡ 1) ⊎ (status ≡ 5)

-- where the words ask for `make`, the script is written whole, or memory runs out, unless the count of failed
-- writes rose or stands at its last value
abbrev pub MakesThrough : List (String Global) → Devices → Devices → ℕ → Type 0
MakesThrough words old new status = (nodes start : ℕ) → Asked words (task.Make nodes start)
    → ¬ Rose old.write_faults new.write_faults → (status ≡ 0) ⊎ (status ≡ 5)

-- the task that the words ask for is done, or memory runs out, unless a count of faults rose or stands at its
-- last value
pub record RunsThrough (words : List (String Global)) (old new : Devices) (status : ℕ) : Type 0 where
  pub answers : AnswersThrough words old new status
  pub makes : MakesThrough words old new status
