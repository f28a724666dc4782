use Rattle.sr_laws.proofs.Delivery.{sound-delivers, sound-meets}
use Rattle.sr_laws.proofs.sound_lists_deliver.Goals as goal

pub returns : goal.returns
returns c = record { deliver = sound-delivers; distinct = sound-meets }
