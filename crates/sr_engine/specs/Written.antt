-- What was answered so far: what the sink holds, and what is gathered for it.
use Rattle.std.specs.Prelude.{◌≡◌, ℕ, List, ◌++◌, [], MatchResult}
use Rattle.std.specs.Io.KnownBytes.{Appends}
use Rattle.std.specs.declared.option.Option.{Option}
use Rattle.std.specs.declared.result.Result.{Result}
use Rattle.sr_base.specs.declared.SinkFault.{SinkFault}
use Rattle.sr_base.specs.Writing.{CauseOf}
use Rattle.sr_engine.specs.declared.answers.TheConstants.{GATHERED}

-- what the sink holds, its count of faults, and what is gathered for it
pub record Written : Type 0 where
  pub held : Option (List ℕ)
  pub faults : ℕ
  pub gathered : List ℕ

-- what was answered, of these parts
abbrev pub written : Option (List ℕ) → ℕ → List ℕ → Written
written held faults gathered = record { held = held; faults = faults; gathered = gathered }

-- where more bytes than this are gathered, they are written
abbrev pub most_gathered : ℕ
most_gathered = GATHERED

-- exactly this text was answered: it stands behind what was gathered, in the sink or gathered still
pub record Says (old new : Written) (text : List ℕ) : Type 0 where
  pub given : List ℕ
  pub appended : Appends old.held new.held given
  pub rest : old.gathered ++ text ≡ given ++ new.gathered
  pub faults : new.faults ≡ old.faults

-- the sink was given a beginning of what was gathered and of this text, and then there was this fault
pub record Breaks (old new : Written) (text : List ℕ) (fault : SinkFault) : Type 0 where
  pub given : List ℕ
  pub more : List ℕ
  pub appended : Appends old.held new.held given
  pub rest : old.gathered ++ text ≡ given ++ more
  pub cause : CauseOf old.faults new.faults fault

-- the text was answered, or at a fault a beginning of it
abbrev pub Puts : Written → Written → List ℕ → Result (Unit {0}) SinkFault → Type 0
Puts old new text result = MatchResult result (λ _. Says old new text) (Breaks old new text)

-- nothing was answered, and all that was gathered is in the sink
pub record Flushed (old new : Written) : Type 0 where
  pub says : Says old new []
  pub none : new.gathered ≡ []

-- all that was gathered was written, or at a fault a beginning of it
abbrev pub Flushes : Written → Written → Result (Unit {0}) SinkFault → Type 0
Flushes old new result = MatchResult result (λ _. Flushed old new) (Breaks old new [])
