use Rattle.sr_loads.proofs.BatchLemmas.{batch-near}
use Rattle.sr_loads.proofs.traffic.Traffic.forward_batch.Goals as goal

pub forward_pairs-requires-clause-pairs : goal.forward_pairs-requires-clause-pairs
forward_pairs-requires-clause-pairs c =
    rw c.batch_of-pairs.ensures (batch-near c.self.inside.net.now c.self.inside.pairs.now c.args.batch c.self.invariant.1)
