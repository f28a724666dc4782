-- What is told to a question of what differs between two versions.
use Rattle.std.specs.Prelude.{◌≡◌, ℕ, ◌==◌, if◌then◌else◌, Option, Some, None}
use Rattle.sr_print.specs.declared.refusal.Refusal.TheVariants.{NoSuchVersion}
use Rattle.sr_print.specs.Told.{Told}
use Rattle.sr_print.specs.Told.Told.{Diff as DiffTold}
use Rattle.sr_repair.specs.Version.{NumberedNet}
use Rattle.sr_diff.specs.declared.differences.Diff.{Diff}
use Rattle.sr_diff.specs.Diff.{IsDiff}
use Rattle.sr_run.specs.Questions.{IsRefused}

-- the version, where it has this number
abbrev pub if_numbered : ℕ → Option NumberedNet → Option NumberedNet
if_numbered number None = None
if_numbered number (Some version) = if version.number == number then Some version else None

-- of a version and the one before it that of this number
abbrev pub numbered_of : ℕ → Option NumberedNet → NumberedNet → Option NumberedNet
numbered_of number previous version =
    if version.number == number then Some version else if_numbered number previous

-- what differs between the repairs of an older version and those of this one; where the older one is none of the two,
-- its number is refused
abbrev pub TellsBetween : ℕ → Option NumberedNet → NumberedNet → Told → Type 0
TellsBetween number None version told = IsRefused told (NoSuchVersion number)
TellsBetween number (Some old) version told =
    (diff : Diff) × IsDiff old.net version.net diff × (told ≡ DiffTold old version.net diff)

-- `diff V`: what differs between the repairs of the version of that number, which is this one or the one before it, and
-- those of this one
abbrev pub TellsDiff : ℕ → Option NumberedNet → NumberedNet → Told → Type 0
TellsDiff number previous version told = TellsBetween number (numbered_of number previous version) version told
