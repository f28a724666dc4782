use Rattle.sr_print.proofs.Appended.{begins-longer, on_err}
use Rattle.sr_print.proofs.difference.put_each_changed.Goals as goal

pub returns-in_err-put_changed-clause-err : goal.returns-in_err-put_changed-clause-err
returns-in_err-put_changed-clause-err c = on_err c.from_residual.result (begins-longer _ _ _ _ c.loop-one.invariant c.in_err-put_changed.ensures.err)
