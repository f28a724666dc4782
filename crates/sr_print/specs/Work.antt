-- The lines of background work, each with its line feed.
use Rattle.std.specs.Prelude.{ℕ, List, ◌++◌, Option, Some, None, codes, decimal}
use Rattle.std.specs.List.{flat_map}
use Rattle.sr_model.specs.declared.audit.WatchRound.{WatchRound}
use Rattle.sr_model.specs.declared.audit.RoundReport.{RoundReport}
use Rattle.sr_print.specs.Printed.{ended, numbered, word}
use Rattle.sr_print.specs.Repairs.{counts_text}

-- a hold of this version runs
abbrev pub hold_line : ℕ → List ℕ
hold_line version = ended (numbered (codes "hold version ") version)

-- a watch runs: its watchers, the rounds of each, and the version that it began with
abbrev pub watch_line : ℕ → ℕ → ℕ → List ℕ
watch_line watchers rounds version =
    ended (numbered (codes "watch ") watchers ++ word (decimal rounds) ++ numbered (codes " from version ") version)

-- what a report is of: a hold, or a round of a watcher
abbrev pub round_text : Option WatchRound → List ℕ
round_text None = codes "report hold"
round_text (Some made) = numbered (codes "report watch ") made.watcher ++ word (decimal made.round)

-- the report of a hold or a round: the number of the version, and how many answers of each sort its audit has
unfoldable pub report_line : RoundReport → List ℕ
report_line report =
    ended (round_text report.round ++ numbered (codes " version ") report.version ++ counts_text report.counts)

-- reports, in their order
abbrev pub report_lines : List RoundReport → List ℕ
report_lines reports = flat_map report_line reports

-- background work was joined, and gave this many reports
abbrev pub joined_line : ℕ → List ℕ
joined_line count = ended (numbered (codes "joined ") count)
