use Rattle.sr_repair.proofs.DeliveryLemmas.{repair_delivers}
use Rattle.sr_repair.proofs.laws.repairs_deliver.Goals as goal

pub returns : goal.returns
returns c = repair_delivers
