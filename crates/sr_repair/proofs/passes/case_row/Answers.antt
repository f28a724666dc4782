use Rattle.std.proofs.Common.{◌<◌}
use Rattle.sr_model.specs.Case.{source_of}
use Rattle.sr_model.specs.Graph.{node_count}
use Rattle.sr_repair.proofs.RowLemmas.{row-narrow}
use Rattle.sr_repair.proofs.passes.case_row.Goals as goal

pub new-requires-clause-narrow : goal.new-requires-clause-narrow
new-requires-clause-narrow c =
    let g = c.args.net.now.graph in
    let source = source_of g c.args.case in
    let within : source < node_count g = (c.requires.trees.graph.each c.args.case.link.0 c.requires.case).0 in
    rw c.cells.ensures (row-narrow g c.args.post.now.failed source c.args.post.now.cells c.requires.trees.graph within c.requires.post.row)
