use Rattle.sr_print.proofs.Appended.{begins-longer, on_err}
use Rattle.sr_print.proofs.flags.put_letters.Goals as goal

pub returns-in_err-put_letter-clause-err : goal.returns-in_err-put_letter-clause-err
returns-in_err-put_letter-clause-err c = on_err c.from_residual.result (begins-longer _ _ _ _ c.loop-set.invariant c.in_err-put_letter.ensures.err)
