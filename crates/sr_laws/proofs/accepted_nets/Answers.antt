use Rattle.sr_laws.proofs.Accepted.{net-from_accepted}
use Rattle.sr_laws.proofs.accepted_nets.Goals as goal

pub returns : goal.returns
returns c = net-from_accepted
