use Rattle.sr_print.proofs.Appended.{begins-longer, on_err}
use Rattle.sr_print.proofs.link.put_links.Goals as goal

pub returns-in_err-put_link-clause-err : goal.returns-in_err-put_link-clause-err
returns-in_err-put_link-clause-err c = on_err c.from_residual.result (begins-longer _ _ _ _ c.loop-link.invariant c.in_err-put_link.ensures.err)
