use Rattle.sr_graph.proofs.IncomingLemmas.{ending-at}
use Rattle.sr_graph.proofs.graph.Graph.links_to.Goals as goal

pub returns-clause-links : goal.returns-clause-links
returns-clause-links c = rw c.as_slice.ensures (ending-at _ _ _ _ _ c.self.view_is c.self.invariant.incoming c.requires c.index.ensures)
