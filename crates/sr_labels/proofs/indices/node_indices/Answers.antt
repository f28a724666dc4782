use Rattle.sr_labels.proofs.IndexOrder.{in-order}
use Rattle.sr_labels.proofs.indices.node_indices.Goals as goal

pub returns : goal.returns
returns c = in-order c.args.nodes.now c.in_ok-list.list.items c.sort_unstable.new.self.items c.in_ok-list.ensures c.sort_unstable.ensures.permutation c.sort_unstable.ensures.sorted
