use Rattle.sr_print.proofs.Appended.{begins-longer, on_err}
use Rattle.sr_print.proofs.difference.put_each_marked.Goals as goal

pub returns-in_err-put_marked-clause-err : goal.returns-in_err-put_marked-clause-err
returns-in_err-put_marked-clause-err c = on_err c.from_residual.result (begins-longer _ _ _ _ c.loop-item.invariant c.in_err-put_marked.ensures.err)
