-- Where a run stands between two steps.
use Rattle.std.specs.Prelude.{◌≡◌, ℕ, ◌+◌, ◌≤◌, Bool, false, List, ◌++◌, length}
use Rattle.std.specs.List.{flat_map}
use Rattle.std.specs.Io.KnownBytes.{Consumes}
use Rattle.sr_engine.specs.Lines.{IsUnbroken, AreUnbroken, with_feed, head_of, script_of, most_bytes}
use Rattle.sr_engine.specs.Replies.{Conduct, Replies}
use Rattle.sr_engine.specs.Written.{Says}
use Rattle.sr_engine.specs.Reading.{Held, Streams}

-- what a run holds between two steps: the reader, how many lines came, whether one was refused, and the session's
-- state
pub record Stand (S : Type 0) : Type 0 where
  pub script : Held
  pub number : ℕ
  pub refused : Bool
  pub state : S

-- the stand of a run with these parts
abbrev pub stand : {S : Type 0} → Held → ℕ → Bool → S → Stand S
stand script number refused state = record { script = script; number = number; refused = refused; state = state }

-- these bytes were taken without a fault; all lines that ended before those not looked at were answered, and they are
-- as many as were counted
pub record Going {S : Type 0} (conduct : Conduct S) (opening : S) (start now : Streams) (at : Stand S) : Type 0 where
  pub taken : List ℕ
  pub took : Consumes start.source.left now.source.left taken
  pub counted : at.script.taken ≡ length taken
  pub few : at.script.taken ≤ most_bytes + 1
  pub lines : List (List ℕ)
  pub rest : List ℕ
  pub each : AreUnbroken lines
  pub unbroken : IsUnbroken rest
  pub whole : script_of taken ≡ flat_map with_feed lines ++ (rest ++ at.script.unread)
  pub line : at.script.line ≡ head_of rest
  pub said : List ℕ
  pub replies : Replies conduct.answers opening 1 lines said at.refused at.state
  pub says : Says start.sink now.sink said
  pub number_is : at.number ≡ length lines
  pub lent : at.script.lent ≡ false
  pub room : at.number + length at.script.unread ≤ at.script.taken
  pub reads : now.source.faults ≡ start.source.faults
