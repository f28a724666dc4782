use Rattle.std.proofs.Common.{◌≡◌, ◌++◌, ◌∙◌, ap, ℕ}
use Rattle.std.specs.Prelude.{codes, decimal}
use Rattle.std.proofs.lemmas.Result.{on_ok_weaker}
use Rattle.sr_print.specs.Printed.{numbered, word}
use Rattle.sr_print.proofs.Appended.{two_pieces}
use Rattle.sr_print.proofs.work.put_round.Goals as goal

pub returns-in_ok-put_numbered-in-Some-clause-line : goal.returns-in_ok-put_numbered-in-Some-clause-line
returns-in_ok-put_numbered-in-Some-clause-line c =
    let old = c.args.out.now.items in
    let one = c.put_numbered.new.out.items in
    let two = c.put_value.new.out.items in
    let made = c.in-Some.made in
    let watcher = numbered (codes "report watch ") made.watcher in
    let round = word (decimal made.round) in
    let first : one ≡ old ++ watcher = c.in_ok-put_numbered-in-Some.ensures.line ∙ ap (λ (n : ℕ). old ++ numbered (codes "report watch ") n) c.from.ensures in
    let put = on_ok_weaker c.put_value.result
    (λ is. two_pieces old one two watcher round first (is ∙ ap (λ (n : ℕ). one ++ word (decimal n)) c.from-in-Some.ensures))
    c.put_value.ensures.line in
    rw c.in-Some.is put
