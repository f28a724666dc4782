-- What is lent to a run, and what the usage of stores shows of the watches of a script.
use Rattle.std.specs.Prelude.{◌≡◌, ℕ, ◌+◌, ◌-◌, ◌*◌, ◌≤◌}
use Rattle.sr_model.specs.declared.limits.TheConstants.{MOST_ROUNDS}
use Rattle.sr_store.specs.declared.usage.Usage.{Usage}
use Rattle.sr_run.specs.Domain.{WatchTotals}

-- what a run is lent, and gives back: the usage of stores, and a counter of searches by what it stands at
pub record Lent : Type 0 where
  pub usage : Usage
  pub searches : ℕ

-- this usage, and a counter that stands at this
abbrev pub lent_of : Usage → ℕ → Lent
lent_of usage searches = record { usage = usage; searches = searches }

-- nothing was asked of a store yet
abbrev pub unused : Usage
unused = record { places = 0; given = 0; published = 0; turns = 0 }

-- a place was asked for each watcher, and each commit that was accepted while a watch ran was published; all rounds
-- were turns of readers, but those of watchers to whom no reader was given
pub record ServesWatches (totals : WatchTotals) (usage : Usage) : Type 0 where
  pub places : usage.places ≡ totals.places
  pub published : usage.published ≡ totals.commits
  pub turns : totals.rounds ≤ usage.turns + MOST_ROUNDS * (usage.places - usage.given)
