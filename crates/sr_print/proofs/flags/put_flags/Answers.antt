use Rattle.std.proofs.Common.{arith}
use Rattle.std.specs.Prelude.{codes}
use Rattle.std.proofs.lemmas.Result.{on_ok_weaker}
use Rattle.sr_print.proofs.Appended.{on_ok}
use Rattle.sr_print.proofs.Letters.{no-flag, some-flag}
use Rattle.sr_print.proofs.flags.put_flags.Goals as goal

pub returns-then-len-start-clause-line : goal.returns-then-len-start-clause-line
returns-then-len-start-clause-line c =
    let two = c.put_letters.new.out.items in
    let new = c.extend_from_slice-then-len-start.new.self.items in
    on_ok_weaker c.extend_from_slice-then-len-start.result
    (λ is. no-flag c.args.flags.now c.args.out.now.items c.extend_from_slice.new.self.items two new c.in_ok-extend_from_slice.ensures.items c.in_ok-put_letters.ensures.line (omega (arith, c.len.ensures, c.len-start.ensures, c.if-len-start.true)) is)
    (on_ok c.extend_from_slice-then-len-start.result two new (codes "none") c.extend_from_slice-then-len-start.ensures.items)

pub returns-clause-line : goal.returns-clause-line
returns-clause-line c =
    some-flag c.args.flags.now c.args.out.now.items c.extend_from_slice.new.self.items c.put_letters.new.out.items c.in_ok-extend_from_slice.ensures.items c.in_ok-put_letters.ensures.line
    (λ same. absurd (omega (arith, c.len.ensures, c.len-start.ensures, c.if-len-start.false, same)))
