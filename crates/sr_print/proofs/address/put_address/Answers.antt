use Rattle.std.specs.Prelude.{codes}
use Rattle.std.proofs.lemmas.Result.{on_err_weaker}
use Rattle.sr_print.proofs.Appended.{begins-behind, begins-longer}
use Rattle.sr_print.proofs.address.put_address.Goals as goal

pub returns-clause-err : goal.returns-clause-err
returns-clause-err c =
    let one = c.put_number.new.out.items in
    let two = c.put_dotted.new.out.items in
    let three = c.put_dotted-2.new.out.items in
    let new = c.put_dotted-3.new.out.items in
    on_err_weaker c.put_dotted-3.result
    (λ err. begins-longer c.args.out.now.items one new _ c.in_ok-put_number.ensures.line
    (begins-behind one two new (codes ".") _ c.in_ok-put_dotted.ensures.line
    (begins-behind two three new (codes ".") _ c.in_ok-put_dotted-2.ensures.line err)))
    c.put_dotted-3.ensures.err
