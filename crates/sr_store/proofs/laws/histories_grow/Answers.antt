use Rattle.sr_store.proofs.Growth.{histories-grow}
use Rattle.sr_store.proofs.laws.histories_grow.Goals as goal

pub returns : goal.returns
returns g c = histories-grow g.V.Numbered.number_of
