use Rattle.sr_print.proofs.Appended.{begins-longer, on_err}
use Rattle.sr_print.proofs.refused.put_each_broken.Goals as goal

pub returns-in_err-put_broken-clause-err : goal.returns-in_err-put_broken-clause-err
returns-in_err-put_broken-clause-err c = on_err c.from_residual.result (begins-longer _ _ _ _ c.loop-rule.invariant c.in_err-put_broken.ensures.err)
