use Rattle.sr_print.proofs.Appended.{begins-longer, on_err}
use Rattle.sr_print.proofs.certificate.put_rows.Goals as goal

pub returns-in_err-put_row-clause-err : goal.returns-in_err-put_row-clause-err
returns-in_err-put_row-clause-err c = on_err c.from_residual.result (begins-longer _ _ _ _ c.loop-row.invariant c.in_err-put_row.ensures.err)
