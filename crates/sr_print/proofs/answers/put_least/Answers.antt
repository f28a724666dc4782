use Rattle.std.proofs.lemmas.Result.{on_ok_weaker}
use Rattle.sr_print.specs.Answers.{PutsStack}
use Rattle.sr_print.proofs.Routes.{list-put}
use Rattle.sr_print.proofs.answers.put_least.Goals as goal

pub returns-clause-line : goal.returns-clause-line
returns-clause-line c =
    let n = c.args.net.now in
    let list = c.args.list.now in
    let one = c.extend_from_slice.new.self.items in
    let two = c.put_labels.new.out.items in
    let stack : PutsStack n c.args.d.0 list.first.0 list.segments one two = rw c.list.ensures at c.in_ok-put_labels.ensures.line in
    on_ok_weaker c.put_numbered.result
    (λ is. list-put n c.args.d.0 list c.args.way.now c.args.out.now.items one two c.put_numbered.new.out.items c.requires.way c.in_ok-extend_from_slice.ensures.items stack is)
    (rw c.from.ensures at c.put_numbered.ensures.line)
