use Rattle.sr_laws.proofs.PairKeys.{pair-agrees}
use Rattle.sr_laws.proofs.pairs_agree.Goals as goal

pub returns : goal.returns
returns c = pair-agrees
