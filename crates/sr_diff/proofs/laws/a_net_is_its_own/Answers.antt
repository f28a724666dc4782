use Rattle.sr_diff.proofs.DeterminedLemmas.{net-own}
use Rattle.sr_diff.proofs.laws.a_net_is_its_own.Goals as goal

pub returns : goal.returns
returns c = net-own
