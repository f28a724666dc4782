-- What making a script does to its sink, and how it ends.
use Rattle.std.specs.Prelude.{◌≡◌, ℕ, true, false, List, ◌++◌}
use Rattle.std.specs.declared.option.Option.{Option}
use Rattle.std.specs.Io.KnownBytes.{Appends}
use Rattle.sr_base.specs.Faults.{Rose}
use Rattle.sr_engine.specs.declared.end.End.{End}
use Rattle.sr_engine.specs.declared.end.End.TheVariants.{Done, ReadFailed, WriteFailed, Memory, TooMuch}

-- the script begins with what was written
abbrev pub IsBeginningOf : List ℕ → List ℕ → Type 0
IsBeginningOf script out = (more : List ℕ) × (script ≡ out ++ more)

-- an ending says what was written of the script: the whole, and the count of faults stayed; or a beginning, where the
-- count rose or stands at its last value, or where memory ran out and the count stayed; there is no other ending
abbrev pub MakingShows : List ℕ → List ℕ → ℕ → ℕ → End → Type 0
MakingShows script out before now (Done false) = (out ≡ script) × (now ≡ before)
MakingShows script out before now (Done true) = ⊥
MakingShows script out before now ReadFailed = ⊥
MakingShows script out before now WriteFailed = IsBeginningOf script out × Rose before now
MakingShows script out before now Memory = IsBeginningOf script out × (now ≡ before)
MakingShows script out before now TooMuch = ⊥

-- these bytes were appended to what the sink held, and the ending says what they are of the script
pub record Makes (script : List ℕ) (held held' : Option (List ℕ)) (faults faults' : ℕ) (end : End) : Type 0 where
  pub out : List ℕ
  pub appended : Appends held held' out
  pub shows : MakingShows script out faults faults' end
