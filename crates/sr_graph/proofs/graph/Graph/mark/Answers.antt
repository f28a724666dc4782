use Rattle.sr_graph.proofs.MarkLemmas.{laid_out-marked}
use Rattle.sr_graph.proofs.graph.Graph.mark.Goals as goal

pub invariant_of-self : goal.invariant_of-self
invariant_of-self c = laid_out-marked _ _ _ _ _ _ _ _ _ c.self.invariant
