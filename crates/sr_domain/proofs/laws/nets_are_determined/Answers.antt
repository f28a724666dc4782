use Rattle.sr_domain.proofs.DeterminedNets.{net-one}
use Rattle.sr_domain.proofs.DeterminedRules.{fault-one, broken-no_net}
use Rattle.sr_domain.proofs.laws.nets_are_determined.Goals as goal

pub returns : goal.returns
returns c = record { nets = net-one; faults = fault-one; apart = broken-no_net }
