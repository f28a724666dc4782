use Rattle.sr_graph_checks.proofs.tests.bypass.left_past.Goals as goal

pub post_of_link-requires-clause-around : goal.post_of_link-requires-clause-around
post_of_link-requires-clause-around c = rw c.cells.ensures (c.args.around.now.failed, c.requires.around.failed, c.requires.around.row)
