use Rattle.sr_print.proofs.Appended.{begins-longer, on_err}
use Rattle.sr_print.proofs.insight.put_coverage.Goals as goal

pub returns-in_err-put_group-clause-err : goal.returns-in_err-put_group-clause-err
returns-in_err-put_group-clause-err c = on_err c.from_residual.result (begins-longer _ _ _ _ c.loop-group.invariant c.in_err-put_group.ensures.err)
