use Rattle.std.proofs.Common.{◌≡◌, ◌++◌, ◌∙◌, ap, ℕ}
use Rattle.std.specs.Prelude.{codes, decimal}
use Rattle.std.proofs.lemmas.Result.{on_ok_weaker}
use Rattle.sr_print.specs.Printed.{numbered, word}
use Rattle.sr_print.proofs.Appended.{two_pieces, three_pieces}
use Rattle.sr_print.proofs.work.put_watch.Goals as goal

pub returns-clause-line : goal.returns-clause-line
returns-clause-line c =
    let old = c.args.out.now.items in
    let one = c.put_numbered.new.out.items in
    let two = c.put_value.new.out.items in
    let three = c.put_numbered-2.new.out.items in
    let watchers = numbered (codes "watch ") c.args.watchers in
    let rounds = word (decimal c.args.rounds) in
    let from = numbered (codes " from version ") c.args.version in
    let first : one ≡ old ++ watchers = c.in_ok-put_numbered.ensures.line ∙ ap (λ (n : ℕ). old ++ numbered (codes "watch ") n) c.from.ensures in
    let second : two ≡ one ++ rounds = c.in_ok-put_value.ensures.line ∙ ap (λ (n : ℕ). one ++ word (decimal n)) c.from-2.ensures in
    let third : three ≡ two ++ from = c.in_ok-put_numbered-2.ensures.line ∙ ap (λ (n : ℕ). two ++ numbered (codes " from version ") n) c.from-3.ensures in
    on_ok_weaker c.end.result
    (λ is. two_pieces old three c.end.new.out.items (watchers ++ rounds ++ from) (codes "\n") (three_pieces old one two three watchers rounds from first second third) is)
    c.end.ensures.line
