use Rattle.std.proofs.Common.{◌≡◌, ap, ◌∙◌}
use Rattle.sr_model.specs.Graph.{tail}
use Rattle.sr_model.specs.Case.{source_of}
use Rattle.sr_graph.specs.Ranges.{HoldsLinks}
use Rattle.sr_encode.specs.Placed.{listed_from}
use Rattle.sr_encode.proofs.PlacedLemmas.{lists-numbered}
use Rattle.sr_graph_checks.proofs.tests.renumbered.keeps.Goals as goal

pub keeps_numbers-requires : goal.keeps_numbers-requires
keeps_numbers-requires c =
    let n = c.args.net.now in
    let first = c.links_from.result.first in
    let source : c.edge.result.from.0 ≡ source_of n.graph c.args.case = c.edge.ensures.from ∙ ap (λ g. tail g c.args.case.link.0) c.graph.ensures.value in
    let holds : HoldsLinks n.graph (source_of n.graph c.args.case) first c.links_from.result.end = rw (c.graph-2.ensures.value, source) at c.links_from.ensures.links in
    record { numbers = lists-numbered n c.args.case (listed_from first c.args.lists.now) (c.requires.lists.from first c.links_from.result.end holds) c.graph.ensures.accepted.graph }
