use Rattle.sr_lsdb.proofs.OrderLemmas.{pairs_ordered, pairs_told}
use Rattle.sr_lsdb.proofs.laws.pairs_are_ordered.Goals as goal

pub returns : goal.returns
returns c = record { order = pairs_ordered; told = pairs_told }
