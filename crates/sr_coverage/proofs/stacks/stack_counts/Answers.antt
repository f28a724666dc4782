use Rattle.std.proofs.lemmas.Result.{IfOk-weaker}
use Rattle.sr_coverage.proofs.stacks.stack_counts.Goals as goal

pub returns : goal.returns
returns g c =
    IfOk-weaker c.stack_counts_of.result _ _
    (λ rows are. record { items = c.in_ok-report.report.items; audit = c.in_ok-report.ensures.audit; counts_are = are })
    (rw c.items.ensures at c.stack_counts_of.ensures)
