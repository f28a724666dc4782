use Rattle.sr_lsdb.proofs.OrderLemmas.{ids_ordered, ids_told}
use Rattle.sr_lsdb.proofs.laws.ids_are_ordered.Goals as goal

pub returns : goal.returns
returns c = record { order = ids_ordered; told = ids_told }
