use Rattle.sr_print.proofs.Appended.{begins-longer, on_err}
use Rattle.sr_print.proofs.aside.put_asides.Goals as goal

pub returns-in_err-put_aside-clause-err : goal.returns-in_err-put_aside-clause-err
returns-in_err-put_aside-clause-err c = on_err c.from_residual.result (begins-longer _ _ _ _ c.loop-aside.invariant c.in_err-put_aside.ensures.err)
