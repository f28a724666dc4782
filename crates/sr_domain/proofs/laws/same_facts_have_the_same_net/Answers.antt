use Rattle.sr_domain.proofs.RenewedLemmas.{net-said}
use Rattle.sr_domain.proofs.laws.same_facts_have_the_same_net.Goals as goal

pub returns : goal.returns
returns c = net-said
