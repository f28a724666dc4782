-- How a run ends, what was then written, and what the counts of faults then show.
use Rattle.std.specs.Prelude.{◌≡◌, ℕ, ◌+◌, ◌≤◌, ◌<◌, Bool, true, false, List, [], ◌++◌, ◌⊎◌, length}
use Rattle.std.specs.declared.option.Option.{Option}
use Rattle.std.specs.Io.KnownBytes.{Consumes, Appends, IsAtEnd}
use Rattle.sr_base.specs.declared.SinkFault.{SinkFault}
use Rattle.sr_base.specs.declared.SinkFault.TheVariants as fault
use Rattle.sr_base.specs.Faults.{Rose}
use Rattle.sr_engine.specs.Written.{Written, Flushed, Breaks}
use Rattle.sr_engine.specs.Reading.{Streams}
use Rattle.sr_engine.specs.Lines.{script_of, most_bytes}
use Rattle.sr_engine.specs.Replies.{Answering, Conduct, Answered, Script}
use Rattle.sr_engine.specs.declared.end.End.{End}
use Rattle.sr_engine.specs.declared.end.End.TheVariants.{Done, ReadFailed, WriteFailed, Memory, TooMuch}

-- the status of an ending
abbrev pub status_of : End → ℕ
status_of (Done false) = 0
status_of (Done true) = 1
status_of ReadFailed = 3
status_of WriteFailed = 4
status_of Memory = 5
status_of TooMuch = 6

-- the run ends so at a fault of the sink
abbrev pub ending_of : SinkFault → End
ending_of fault.Failed = WriteFailed
ending_of (fault.Memory e) = Memory

-- all that was gathered was written and the run ends as answered whole, or there was a fault
abbrev pub Finishes : Written → Written → Bool → End → Type 0
Finishes before after refused end =
    ((end ≡ Done refused) × Flushed before after)
    ⊎ ((fault : SinkFault) × Breaks before after [] fault × (end ≡ ending_of fault))

-- the bytes that the source has left and that the sink holds, where they tell, and their counts of faults
pub record Devices : Type 0 where
  pub left : Option (List ℕ)
  pub held : Option (List ℕ)
  pub read_faults : ℕ
  pub write_faults : ℕ

-- what a source and a sink show
abbrev pub devices_of : Option (List ℕ) → Option (List ℕ) → ℕ → ℕ → Devices
devices_of left held read_faults write_faults = record {
  left = left;
  held = held;
  read_faults = read_faults;
  write_faults = write_faults;
}

-- the state that a run began with, the bytes that it took from the source, those that it appended to the sink, and
-- the state that it left
pub record Course (S : Type 0) : Type 0 where
  pub opening : S
  pub taken : List ℕ
  pub out : List ℕ
  pub final : S

-- the output is a beginning of what the session may answer to the lines that end within the first of these bytes
pub record BeginsAnswers {S : Type 0} (answers : Answering S) (opening : S) (taken out : List ℕ) : Type 0 where
  pub front : List ℕ
  pub back : List ℕ
  pub taken_is : taken ≡ front ++ back
  pub more : List ℕ
  pub answered : Answered answers opening front (out ++ more)

-- the source was read to its end, and the output is a beginning of what the session may answer to the whole script
pub record BeginsScript {S : Type 0} (conduct : Conduct S) (opening : S) (left : Option (List ℕ)) (taken out : List ℕ)
    : Type 0 where
  pub at_end : IsAtEnd left
  pub more : List ℕ
  pub refused : Bool
  pub final : S
  pub script : Script conduct opening taken (out ++ more) refused final

-- the output is a beginning of what the session may answer, to some first lines or to the whole script
abbrev pub BeginsOutput : {S : Type 0} → Conduct S → S → Option (List ℕ) → List ℕ → List ℕ → Type 0
BeginsOutput conduct opening left taken out =
    BeginsAnswers conduct.answers opening taken out ⊎ BeginsScript conduct opening left taken out

-- the output of a run that took this course and ended so, where the source has these bytes left
abbrev pub OutputIs : {S : Type 0} → Conduct S → Option (List ℕ) → Course S → End → Type 0
OutputIs conduct left run (Done refused) =
    IsAtEnd left × (length run.taken ≤ most_bytes) × Script conduct run.opening run.taken run.out refused run.final
OutputIs conduct left run ReadFailed = Answered conduct.answers run.opening run.taken run.out
OutputIs conduct left run WriteFailed = BeginsOutput conduct run.opening left run.taken run.out
OutputIs conduct left run Memory = BeginsOutput conduct run.opening left run.taken run.out
OutputIs conduct left run TooMuch =
    (most_bytes < length run.taken) × Answered conduct.answers run.opening (script_of run.taken) run.out

-- the counts of faults of the source and the sink, before and after a run that ended so
abbrev pub CountsShow : Devices → Devices → End → Type 0
CountsShow old new (Done refused) = (new.read_faults ≡ old.read_faults) × (new.write_faults ≡ old.write_faults)
CountsShow old new ReadFailed = Rose old.read_faults new.read_faults × (new.write_faults ≡ old.write_faults)
CountsShow old new WriteFailed = Rose old.write_faults new.write_faults × (new.read_faults ≡ old.read_faults)
CountsShow old new Memory = (new.read_faults ≡ old.read_faults) × (new.write_faults ≡ old.write_faults)
CountsShow old new TooMuch = (new.read_faults ≡ old.read_faults) × (new.write_faults ≡ old.write_faults)

-- the run took these bytes from the source, none past the first one too many, appended those to the sink, and ended
-- so; where the script was answered whole, the session is in this state, and else nothing is said of its state
pub record Ran {S : Type 0} (conduct : Conduct S) (opening : S) (old new : Devices) (end : End) (final : S)
    : Type 0 where
  pub taken : List ℕ
  pub took : Consumes old.left new.left taken
  pub few : length taken ≤ most_bytes + 1
  pub out : List ℕ
  pub appended : Appends old.held new.held out
  pub output : OutputIs conduct new.left (record { opening = opening; taken = taken; out = out; final = final }) end

-- what the source and the sink of a run show
abbrev pub shown : Streams → Devices
shown streams = devices_of streams.source.left streams.sink.held streams.source.faults streams.sink.faults

-- what a run's ending shows, for its clauses
pub record Ends {S : Type 0} (conduct : Conduct S) (opening : S) (start now : Streams) (end : End) (final : S)
    : Type 0 where
  pub ran : Ran conduct opening (shown start) (shown now) end final
  pub counts : CountsShow (shown start) (shown now) end
