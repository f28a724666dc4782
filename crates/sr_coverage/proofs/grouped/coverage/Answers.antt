use Rattle.std.proofs.lemmas.Result.{IfOk-weaker}
use Rattle.sr_coverage.proofs.grouped.coverage.Goals as goal

pub returns : goal.returns
returns g c =
    IfOk-weaker c.audit_groups.result _ _
    (λ groups are. record { items = c.in_ok-report.report.items; audit = c.in_ok-report.ensures.audit; groups_are = are })
    (rw (c.net.ensures.value, c.items.ensures) at c.audit_groups.ensures)
