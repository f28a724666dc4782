use Rattle.sr_print.proofs.Appended.{begins-longer, on_err}
use Rattle.sr_print.proofs.why.put_each_lacking.Goals as goal

pub returns-in_err-put_lacking-clause-err : goal.returns-in_err-put_lacking-clause-err
returns-in_err-put_lacking-clause-err c = on_err c.from_residual.result (begins-longer _ _ _ _ c.loop-segment.invariant c.in_err-put_lacking.ensures.err)
