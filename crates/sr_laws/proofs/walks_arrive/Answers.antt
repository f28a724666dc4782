use Rattle.sr_laws.proofs.Arrivals.{sound-arrives, packet-arrives}
use Rattle.sr_laws.proofs.Choices.{walked-one}
use Rattle.sr_laws.proofs.walks_arrive.Goals as goal

pub returns : goal.returns
returns c = record { lists = sound-arrives; packets = packet-arrives; unique = walked-one }
