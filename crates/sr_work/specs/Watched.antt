-- A watch as contracts see it between two lines.
use Rattle.std.specs.Prelude.{ℕ, ◌≡◌, ◌+◌, List, [], ◌∷◌, ◌++◌}
use Rattle.sr_repair.specs.Version.{NumberedNet}
use Rattle.sr_store.specs.Histories.{IsNext}

-- its watchers, and the rounds of each; how many of the watchers have a reader; and the versions that they could meet
-- so far, first the one with which the watch began
pub record Watched : Type 0 where
  pub watchers : ℕ
  pub rounds : ℕ
  pub given : ℕ
  pub versions : List NumberedNet

-- a watch that began with this version, with that many watchers, rounds and readers
abbrev pub watched_from : ℕ → ℕ → ℕ → NumberedNet → Watched
watched_from watchers rounds given version =
    record { watchers = watchers; rounds = rounds; given = given; versions = version ∷ [] }

-- the watch once this version is published
abbrev pub with_next : Watched → NumberedNet → Watched
with_next watched version = record watched { versions = watched.versions ++ version ∷ [] }

-- the version has the number after that of the last of these
abbrev pub IsNumberedNext : List NumberedNet → NumberedNet → Type 0
IsNumberedNext versions version = IsNext (λ (v : NumberedNet). v.number) versions version

-- the numbers of these versions go up by one, from this number on
abbrev pub AreNumberedFrom : ℕ → List NumberedNet → Type 0
AreNumberedFrom number [] = Unit {0}
AreNumberedFrom number (version ∷ more) = (version.number ≡ number) × AreNumberedFrom (number + 1) more
