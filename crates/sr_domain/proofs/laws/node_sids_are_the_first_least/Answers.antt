use Rattle.sr_domain.proofs.FlatLemmas.{node_sid-least}
use Rattle.sr_domain.proofs.laws.node_sids_are_the_first_least.Goals as goal

pub returns : goal.returns
returns c = node_sid-least
