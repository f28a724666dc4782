use Rattle.sr_laws.proofs.Packets.{packet-delivers}
use Rattle.sr_laws.proofs.Steering.{steered-avoids}
use Rattle.sr_laws.proofs.packets_deliver.Goals as goal

pub returns : goal.returns
returns c = record { deliver = packet-delivers; steered = steered-avoids }
