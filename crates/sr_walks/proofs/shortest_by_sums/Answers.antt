use Rattle.sr_walks.proofs.Distances.{shortest-by_sums, hop-by_sums, space-by_sums}
use Rattle.sr_walks.proofs.shortest_by_sums.Goals as goal

pub returns : goal.returns
returns c = record { links = shortest-by_sums; hops = hop-by_sums; spaces = space-by_sums }
