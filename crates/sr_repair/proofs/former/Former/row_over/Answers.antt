use Rattle.std.proofs.Common.{subst}
use Rattle.sr_model.specs.Graph.{IsGraph}
use Rattle.sr_model.specs.Case.{source_of}
use Rattle.sr_repair.specs.Spared.{Passage}
use Rattle.sr_repair.proofs.RowLemmas.{row-narrow}
use Rattle.sr_repair.proofs.former.Former.row_over.Goals as goal

pub new-requires-clause-narrow : goal.new-requires-clause-narrow
new-requires-clause-narrow c =
    let graph : IsGraph c.args.self.now.old.graph = subst (λ (p : Passage). IsGraph p.old.graph) c.self.view_is c.self.invariant.0.differ.old.graph in
    row-narrow c.args.self.now.old.graph c.requires.steady.x (source_of c.args.self.now.old.graph c.args.old) c.args.cells.now graph (graph.each c.args.old.link.0 c.requires.steady.within).0 (c.requires.row c.requires.steady.x c.requires.steady.failed)
