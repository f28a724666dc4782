use Rattle.std.proofs.Common.{◌≡◌}
use Rattle.sr_model.specs.Case.{source_of}
use Rattle.sr_graph.specs.Ranges.{HoldsLinks}
use Rattle.sr_encode.proofs.case_lists.start_of.Goals as goal

pub returns : goal.returns
returns c =
    let source : c.edge.result.from.0 ≡ source_of c.args.graph.now c.args.case = c.edge.ensures.from in
    let holds : HoldsLinks c.args.graph.now (source_of c.args.graph.now c.args.case) c.links_from.result.first c.links_from.result.end = rw source at c.links_from.ensures.links in
    (c.links_from.result.end, holds)
