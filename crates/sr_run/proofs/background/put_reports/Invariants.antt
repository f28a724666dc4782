-- the reports so far stand behind
use Rattle.std.proofs.Common.{◌≡◌, ◌++◌, take}
use Rattle.std.specs.List.{flat_map}
use Rattle.sr_print.specs.Work.{report_line}
use Rattle.sr_run.proofs.background.put_reports.Given as goal

abbrev pub invariant-loop-report : goal.invariant-loop-report
invariant-loop-report l = l.out.items ≡ l.fn.out.items ++ flat_map report_line (take l.report-index l.reports)
