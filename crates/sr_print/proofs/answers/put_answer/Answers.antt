use Rattle.std.proofs.lemmas.Result.{on_ok_weaker}
use Rattle.sr_repair.proofs.StackLemmas.{list-labels}
use Rattle.sr_print.proofs.Items.{uncovered-put}
use Rattle.sr_print.proofs.answers.put_answer.Goals as goal

pub put_least-requires-clause-way : goal.put_least-requires-clause-way
put_least-requires-clause-way c = rw c.in-Least.is at c.requires.way

pub put_least-requires-clause-list : goal.put_least-requires-clause-list
put_least-requires-clause-list c =
    let labels = list-labels c.args.net.now c.args.case c.args.entry.now.destination.0 c.in-Least.list (rw c.in-Least.is at c.requires.entry.answers) in
    (labels.0, labels.1)

pub returns-in_default : goal.returns-in_default
returns-in_default c = record {
  line = on_ok_weaker c.put_uncovered.result
      (λ is. uncovered-put c.args.net.now c.args.entry.now.destination.0 c.args.entry.now.answer c.args.out.now.items c.put_uncovered.new.out.items c.in_default.not-Least is)
      c.put_uncovered.ensures.line;
  err = c.put_uncovered.ensures.err;
}
