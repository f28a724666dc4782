-- the reports so far, and those of the rounds to come, are those of all rounds
use Rattle.std.proofs.Common.{◌≡◌, ◌++◌, map}
use Rattle.sr_work.specs.Reported.{report_made}
use Rattle.sr_work.proofs.reporting.all_made.Given as goal

abbrev pub invariant-loop-made : goal.invariant-loop-made
invariant-loop-made l =
    let f = report_made l.ended l.first l.anew in
    l.reports.items ++ map f l.made-iterator.rest.items ≡ map f l.fn.rounds.items
