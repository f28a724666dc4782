use Rattle.sr_diff.proofs.ListLemmas.{item-list}
use Rattle.sr_diff.proofs.alike.same_repair.Goals as goal

pub same_list-requires-clause-list : goal.same_list-requires-clause-list
same_list-requires-clause-list c = item-list c.args.old.now c.args.before.now c.in-Least.list c.requires.before c.in-Least.is

pub same_list-requires-clause-other : goal.same_list-requires-clause-other
same_list-requires-clause-other c =
    item-list c.args.new.now c.args.after.now c.in-Least-answer.other c.requires.after c.in-Least-answer.is
