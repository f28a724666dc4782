use Rattle.sr_walks.proofs.Distances.{parts-shortest}
use Rattle.sr_walks.proofs.Distinct.{shortest-distinct}
use Rattle.sr_walks.proofs.shortest_walks.Goals as goal

pub returns : goal.returns
returns c = record { parts = parts-shortest; distinct = λ g r x u p v s. shortest-distinct g x u p v r s }
