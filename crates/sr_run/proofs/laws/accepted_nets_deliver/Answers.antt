use Rattle.sr_run.proofs.Simulation.{answered-delivers}
use Rattle.sr_run.proofs.laws.accepted_nets_deliver.Goals as goal

pub returns : goal.returns
returns c = answered-delivers
