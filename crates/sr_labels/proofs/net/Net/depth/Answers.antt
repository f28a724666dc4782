use Rattle.std.proofs.Common.{subst}
use Rattle.sr_model.specs.Rule.{IsAccepted}
use Rattle.sr_labels.proofs.net.Net.depth.Goals as goal
use Rattle.sr_laws.proofs.Accepted.{net-from_accepted}

pub returns-clause-net : goal.returns-clause-net
returns-clause-net c = net-from_accepted _ (subst IsAccepted c.self.view_is c.self.invariant.0)
