-- What is told to `hold`, `watch` and `join`, and at the end of a script, and the state after it.
use Rattle.std.specs.Prelude.{◌≡◌, ℕ, List, [], ◌∷◌, ◌++◌, length, Option, Some, None}
use Rattle.sr_model.specs.declared.audit.RoundReport.{RoundReport}
use Rattle.sr_model.specs.Label.{Net}
use Rattle.sr_print.specs.declared.refusal.Refusal.{Refusal}
use Rattle.sr_print.specs.declared.refusal.Refusal.TheVariants.{NoVersion, WatchRunning}
use Rattle.sr_print.specs.Told.{Told}
use Rattle.sr_print.specs.Told.Told.{Hold, Watch, Joined}
use Rattle.sr_print.specs.Work.{report_lines, joined_line}
use Rattle.sr_repair.specs.Version.{NumberedNet}
use Rattle.sr_work.specs.Reports.{IsHoldReport, AreReports}
use Rattle.sr_run.specs.Domain.{Domain, Background, BegunWatch, last_version, versions_since, with_hold, with_watch, with_joined}
use Rattle.sr_run.specs.Domain.Background.{AtRest, OfHold, OfWatch}
use Rattle.sr_run.specs.Edits.{Refuses}

-- work begins on the last version; it is refused where there is none, or where work runs already
abbrev pub BeginsWork : (Refusal → Type 0) → (NumberedNet → Type 0) → Option NumberedNet → Background → Type 0
BeginsWork refuses begins None background = refuses NoVersion
BeginsWork refuses begins (Some version) AtRest = begins version
BeginsWork refuses begins (Some version) (OfHold held) = refuses WatchRunning
BeginsWork refuses begins (Some version) (OfWatch watch) = refuses WatchRunning

-- the watch that begins on this version
abbrev pub watch_from : ℕ → ℕ → NumberedNet → BegunWatch
watch_from watchers rounds version = record { watchers = watchers; rounds = rounds; from = version.number }

-- `hold`: a hold of the last version begins
abbrev pub BeginsHold : Domain → Told → Domain → Type 0
BeginsHold old told new =
    BeginsWork (Refuses old told new)
    (λ version. (told ≡ Hold version.number) × (new ≡ with_hold old version))
    (last_version old.nets) old.background

-- `watch`: a watch begins on the last version
abbrev pub BeginsWatch : ℕ → ℕ → Domain → Told → Domain → Type 0
BeginsWatch watchers rounds old told new =
    BeginsWork (Refuses old told new)
    (λ version. (told ≡ Watch watchers rounds version.number)
    × (new ≡ with_watch old (watch_from watchers rounds version)))
    (last_version old.nets) old.background

-- these are the reports of what runs: none, where nothing runs; one of a hold, on its version; and of a watch one for
-- each round of each watcher, on versions that were current since it began
abbrev pub AreDue : Background → List Net → List RoundReport → Type 0
AreDue AtRest nets reports = reports ≡ []
AreDue (OfHold version) nets reports = (report : RoundReport) × (reports ≡ report ∷ []) × IsHoldReport version report
AreDue (OfWatch watch) nets reports = AreReports watch.watchers watch.rounds (versions_since watch.from nets) reports

-- what runs is joined, and reports this
abbrev pub JoinsReporting : Domain → List RoundReport → Domain → Type 0
JoinsReporting old reports new = AreDue old.background old.nets reports × (new ≡ with_joined old)

-- `join`: what runs is joined, and its reports are told
abbrev pub JoinsWork : Domain → Told → Domain → Type 0
JoinsWork old told new = (reports : List RoundReport) × JoinsReporting old reports new × (told ≡ Joined reports)

-- the end of the script, where work runs: it is joined, and answered as a `join` line
abbrev pub EndsAsJoin : Domain → List ℕ → Domain → Type 0
EndsAsJoin old out new =
    (reports : List RoundReport) × JoinsReporting old reports new
    × (out ≡ report_lines reports ++ joined_line (length reports))

-- the end of the script: where nothing runs, nothing is answered, and nothing changes
abbrev pub EndsWork : Background → Domain → List ℕ → Domain → Type 0
EndsWork AtRest old out new = (out ≡ []) × (new ≡ old)
EndsWork (OfHold version) old out new = EndsAsJoin old out new
EndsWork (OfWatch watch) old out new = EndsAsJoin old out new
