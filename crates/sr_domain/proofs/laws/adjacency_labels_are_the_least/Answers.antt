use Rattle.sr_domain.proofs.FlatLemmas.{adj_label-least}
use Rattle.sr_domain.proofs.laws.adjacency_labels_are_the_least.Goals as goal

pub returns : goal.returns
returns c = adj_label-least
