use Rattle.sr_graph.proofs.FailedLemmas.{failed-node}
use Rattle.sr_graph.proofs.graph.Graph.failed_with_node.Goals as goal

pub returns : goal.returns
returns c =
    failed-node c.args.self.now c.args.protected c.edge.result.to.0 c.links_from-beginning.result.first c.links_from-beginning.result.end _ _ c.add_range.new.self c.add_listed.new.self c.edge.ensures.to c.links_from-beginning.ensures.links c.links_to-ending.ensures.links c.link_count.ensures.count
    (rw c.in_ok-set.ensures at c.in_ok-add_range.ensures) c.in_ok-add_listed.ensures
