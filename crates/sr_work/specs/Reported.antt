-- How reports are made of rounds.
use Rattle.std.specs.Prelude.{ℕ, ◌≡◌, ◌-◌, Bool, true, not, cond, List, map, slice_get, Option, Some}
use Rattle.std.specs.Option.{unwrap_or}
use Rattle.sr_model.specs.declared.audit.Counts.{Counts}
use Rattle.sr_model.specs.declared.audit.WatchRound.{WatchRound}
use Rattle.sr_model.specs.declared.audit.RoundReport.{RoundReport}
use Rattle.sr_repair.specs.Version.{NumberedNet}
use Rattle.sr_audit.specs.Counted.{AreAuditCounts}
use Rattle.sr_watch.specs.declared.inspect.Round.{Round}

-- a report of this round, version and counts
abbrev pub report_of : Option WatchRound → ℕ → Counts → RoundReport
report_of round version counts = record { round = round; version = version; counts = counts }

-- whether there is a reader at this place whose last turn was refused
abbrev pub is_refused : List Bool → ℕ → Bool
is_refused ended place = not (unwrap_or (slice_get ended place) true)

-- which round of a watch it is
abbrev pub watch_round : Round Counts → WatchRound
watch_round made = record { watcher = made.watcher; round = made.round }

-- the report of a round of a watch: its own, or one with the number and counts of the first version where the last
-- turn of the watcher's reader was refused
abbrev pub report_made : List Bool → ℕ → Counts → Round Counts → RoundReport
report_made ended first anew made =
    cond (is_refused ended (made.watcher - 1))
    (report_of (Some (watch_round made)) first anew)
    (report_of (Some (watch_round made)) made.number made.out)

-- the reports of these rounds, where those of a watcher whose reader's last turn was refused are made anew on the
-- first version
pub record AreMade (ended : List Bool) (first : NumberedNet)
    (rounds : List (Round Counts)) (reports : List RoundReport) : Type 0 where
  pub anew : Counts
  pub counts : AreAuditCounts first.net anew
  pub all : reports ≡ map (report_made ended first.number anew) rounds
