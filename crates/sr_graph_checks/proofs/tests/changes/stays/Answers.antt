use Rattle.sr_delta.proofs.CaseLemmas.{row-from_post}
use Rattle.sr_graph_checks.proofs.tests.changes.stays.Goals as goal

pub new-old_case-requires-clause-row : goal.new-old_case-requires-clause-row
new-old_case-requires-clause-row c =
    rw c.cells-cells.ensures (row-from_post c.args.old.now c.args.case c.in_ok-left.left c.in_ok-left.ensures)
