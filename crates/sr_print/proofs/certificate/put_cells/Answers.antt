use Rattle.sr_print.proofs.Appended.{begins-longer, on_err}
use Rattle.sr_print.proofs.certificate.put_cells.Goals as goal

pub returns-in_err-put_cell-clause-err : goal.returns-in_err-put_cell-clause-err
returns-in_err-put_cell-clause-err c = on_err c.from_residual.result (begins-longer _ _ _ _ c.loop-cell.invariant c.in_err-put_cell.ensures.err)
