use Rattle.sr_print.proofs.Appended.{begins-longer, on_err}
use Rattle.sr_print.proofs.insight.put_stacks.Goals as goal

pub returns-in_err-put_stack-clause-err : goal.returns-in_err-put_stack-clause-err
returns-in_err-put_stack-clause-err c = on_err c.from_residual.result (begins-longer _ _ _ _ c.loop-stack.invariant c.in_err-put_stack.ensures.err)
