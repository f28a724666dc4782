use Rattle.sr_print.proofs.Appended.{begins-longer, on_err}
use Rattle.sr_print.proofs.account.put_next_ranges.Goals as goal

pub returns-in_err-put_next_range-clause-err : goal.returns-in_err-put_next_range-clause-err
returns-in_err-put_next_range-clause-err c = on_err c.from_residual.result (begins-longer _ _ _ _ c.loop-range.invariant c.in_err-put_next_range.ensures.err)
