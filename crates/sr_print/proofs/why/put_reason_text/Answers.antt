use Rattle.std.proofs.Common.{◌≡◌, ◌++◌, sym, subst}
use Rattle.sr_why.specs.declared.reason.Cause.{Cause}
use Rattle.sr_print.specs.Why.{reason_text}
use Rattle.sr_print.proofs.Appended.{ok_then, two_pieces}
use Rattle.sr_print.proofs.why.put_reason_text.Goals as goal

pub returns-in_ok-put_numbered-in-TooDeep-clause-line : goal.returns-in_ok-put_numbered-in-TooDeep-clause-line
returns-in_ok-put_numbered-in-TooDeep-clause-line c =
    ok_then c.put_whole-in-TooDeep.result
    (λ whole. subst (λ (r : Cause). c.put_whole-in-TooDeep.new.out.items ≡ c.args.out.now.items ++ reason_text c.args.net.now r) (sym c.in-TooDeep.is)
    (two_pieces _ _ _ _ _ (rw c.segment_count.ensures at c.in_ok-put_numbered-in-TooDeep.ensures.line) whole))
    c.put_whole-in-TooDeep.ensures.line
