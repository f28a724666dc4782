use Rattle.std.proofs.lemmas.Result.{IfOk-weaker}
use Rattle.sr_coverage.proofs.PushedLemmas.{audit-narrow, stacks-told}
use Rattle.sr_coverage.proofs.pushed.stack_counts_of.Goals as goal

pub tallied-requires-clause-narrow : goal.tallied-requires-clause-narrow
tallied-requires-clause-narrow c = audit-narrow c.args.net.now c.args.items.now c.width_of-width.result c.width_of-width.ensures.net c.requires.audit c.width_of-width.ensures.wide

pub returns : goal.returns
returns c =
    IfOk-weaker c.table_rows.result _ _
    (λ rows are. stacks-told c.width_of-width.result c.args.items.now c.in_ok-table.table.items rows.items
    (audit-narrow c.args.net.now c.args.items.now c.width_of-width.result c.width_of-width.ensures.net c.requires.audit c.width_of-width.ensures.wide)
    c.in_ok-table.ensures are)
    (rw c.deref.ensures.value at c.table_rows.ensures)
