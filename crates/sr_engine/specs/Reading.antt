-- What a reader of lines holds, and what its two steps do.
use Rattle.std.specs.Prelude.{◌≡◌, ℕ, ◌+◌, ◌-◌, ◌≤◌, ◌<◌, Bool, true, false, List, [], ◌∷◌, ◌++◌, length, take, MatchResult}
use Rattle.std.specs.Io.KnownBytes.{Consumes, Keeps, IsAtEnd}
use Rattle.std.specs.declared.option.Option.{Option}
use Rattle.std.specs.declared.result.Result.{Result}
use Rattle.sr_base.specs.Faults.{Rose}
use Rattle.sr_base.specs.declared.SinkFault.{SinkFault}
use Rattle.sr_engine.specs.Written.{Written, Flushed, Breaks, written}
use Rattle.sr_engine.specs.Lines.{IsUnbroken, head_of, most_bytes}
use Rattle.sr_engine.specs.declared.script.TheConstants.{PIECE}
use Rattle.sr_engine.specs.declared.script.Fill.{Fill}
use Rattle.sr_engine.specs.declared.script.Fill.TheVariants.{More, End, Failed, TooMuch}

-- what the source has left, and its count of faults
pub record Supply : Type 0 where
  pub left : Option (List ℕ)
  pub faults : ℕ

-- the supply of what the source has left and its count of faults
abbrev pub supply : Option (List ℕ) → ℕ → Supply
supply left faults = record { left = left; faults = faults }

-- where a run's bytes come from, and where its answers go
pub record Streams : Type 0 where
  pub source : Supply
  pub sink : Written

-- the streams of what the source and the sink show, and what is gathered
abbrev pub streams : Option (List ℕ) → ℕ → Option (List ℕ) → ℕ → List ℕ → Streams
streams left reads held writes gathered = record { source = supply left reads; sink = written held writes gathered }

-- the head of the line that goes on or came last, the bytes of the script that were taken and not looked at, how many
-- were taken, and whether the line lies in the piece still
pub record Held : Type 0 where
  pub line : List ℕ
  pub unread : List ℕ
  pub taken : ℕ
  pub lent : Bool

-- nothing was taken yet
abbrev pub held_first : Held
held_first = record { line = []; unread = []; taken = 0; lent = false }

-- the line is let go
abbrev pub held_after : Held → Held
held_after old = record old { line = []; lent = false }

-- the bytes that one read asks for
abbrev pub piece_bytes : ℕ
piece_bytes = PIECE

-- the line that came last, where it lies in the piece, and else where it was gathered
abbrev pub line_in : Bool → List ℕ → List ℕ → List ℕ
line_in true piece gathered = piece
line_in false piece gathered = gathered

-- a line feed was found: the line so far and the bytes before it are the line
pub record FindsLine (old new : Held) : Type 0 where
  pub more : List ℕ
  pub split : old.unread ≡ more ++ 10 ∷ new.unread
  pub unbroken : IsUnbroken more
  pub line : (rest : List ℕ) → old.line ≡ head_of rest → new.line ≡ head_of (rest ++ more)
  pub taken : new.taken ≡ old.taken

-- there was no line feed: all bytes belong to the line that goes on
pub record FindsNone (old new : Held) : Type 0 where
  pub unread : new.unread ≡ []
  pub unbroken : IsUnbroken old.unread
  pub lent : new.lent ≡ false
  pub line : (rest : List ℕ) → old.line ≡ head_of rest → new.line ≡ head_of (rest ++ old.unread)
  pub taken : new.taken ≡ old.taken

-- whether a line feed was found
abbrev pub NextIs : Held → Held → Bool → Type 0
NextIs old new true = FindsLine old new
NextIs old new false = FindsNone old new

-- more bytes were taken, at least one, no more than a piece, and none past the first one too many
pub record Takes (left left' : Option (List ℕ)) (old new : Held) : Type 0 where
  pub bytes : List ℕ
  pub took : Consumes left left' bytes
  pub some : 0 < length bytes
  pub within : length bytes ≤ piece_bytes
  pub line : new.line ≡ old.line
  pub lent : new.lent ≡ old.lent
  pub unread : new.unread ≡ take (most_bytes - old.taken) bytes
  pub taken : new.taken ≡ old.taken + length bytes
  pub few : new.taken ≤ most_bytes + 1

-- what a read gave; past the first byte too many no read is made
abbrev pub Fills : Supply → Supply → Held → Held → Fill → Type 0
Fills source source' old new More = Takes source.left source'.left old new × (source'.faults ≡ source.faults)
Fills source source' old new End =
    Consumes source.left source'.left [] × IsAtEnd source'.left × (old.taken ≤ most_bytes)
    × (source'.faults ≡ source.faults) × (new ≡ old)
Fills source source' old new Failed =
    Keeps source.left source'.left × Rose source.faults source'.faults × (old.taken ≤ most_bytes) × (new ≡ old)
Fills source source' old new TooMuch =
    (source'.left ≡ source.left) × (most_bytes < old.taken) × (source'.faults ≡ source.faults) × (new ≡ old)

-- what was gathered was written first, and then this was read
pub record HasRead (before after : Streams) (old new : Held) (fill : Fill) : Type 0 where
  pub sent : Flushed before.sink after.sink
  pub fills : Fills before.source after.source old new fill

-- the sink had a fault, and nothing was read
pub record HasBroken (before after : Streams) (old new : Held) (fault : SinkFault) : Type 0 where
  pub breaks : Breaks before.sink after.sink [] fault
  pub left : after.source.left ≡ before.source.left
  pub faults : after.source.faults ≡ before.source.faults
  pub same : new ≡ old

-- all that was gathered was written, and then more was read; or the sink had a fault
abbrev pub ReadsOn : Streams → Streams → Held → Held → Result Fill SinkFault → Type 0
ReadsOn before after old new result =
    MatchResult result (HasRead before after old new) (HasBroken before after old new)
