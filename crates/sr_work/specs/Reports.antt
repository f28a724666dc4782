-- What background work reports.
use Rattle.std.specs.Prelude.{ℕ, ◌≡◌, ◌≤◌, List, map, slice_get, All, AllPairs, Option, Some, None}
use Rattle.std.specs.List.{flat_map, range_with_len}
use Rattle.std.specs.Option.{option_map}
use Rattle.sr_model.specs.declared.audit.WatchRound.{WatchRound}
use Rattle.sr_model.specs.declared.audit.RoundReport.{RoundReport}
use Rattle.sr_repair.specs.Version.{NumberedNet}
use Rattle.sr_audit.specs.Counted.{AreAuditCounts}

-- the report names this version, and has the counts of an audit of its net
pub record IsReportOf (version : NumberedNet) (report : RoundReport) : Type 0 where
  pub number : report.version ≡ version.number
  pub counts : AreAuditCounts version.net report.counts

-- the report is of one of these versions
abbrev pub IsReportOfOne : List NumberedNet → RoundReport → Type 0
IsReportOfOne versions report =
    (place : ℕ) × (version : NumberedNet) × (slice_get versions place ≡ Some version) × IsReportOf version report

-- the one report of a hold of this version
pub record IsHoldReport (version : NumberedNet) (report : RoundReport) : Type 0 where
  pub round : report.round ≡ None
  pub is : IsReportOf version report

-- the rounds of this watcher, counted from 1
abbrev pub rounds_of : ℕ → ℕ → List WatchRound
rounds_of rounds watcher = map (λ round. record { watcher = watcher; round = round }) (range_with_len 1 rounds)

-- the rounds of all watchers, in order of watcher and then round, both counted from 1
abbrev pub all_rounds : ℕ → ℕ → List WatchRound
all_rounds watchers rounds = flat_map (rounds_of rounds) (range_with_len 1 watchers)

-- the watcher whose report it is
abbrev pub watcher_of : RoundReport → Option ℕ
watcher_of report = option_map (λ (made : WatchRound). made.watcher) report.round

-- where both are of one watcher, the second names no earlier version
abbrev pub IsNoEarlier : RoundReport → RoundReport → Type 0
IsNoEarlier first second = watcher_of first ≡ watcher_of second → first.version ≤ second.version

-- the reports of a watch that could meet these versions: one for each round of each watcher, in order of watcher and
-- round; each of one of the versions; and within a watcher the numbers don't fall
pub record AreReports (watchers rounds : ℕ) (versions : List NumberedNet) (reports : List RoundReport) : Type 0 where
  pub order : map (λ (report : RoundReport). report.round) reports ≡ map Some (all_rounds watchers rounds)
  pub each : All (IsReportOfOne versions) reports
  pub rising : AllPairs IsNoEarlier reports
