use Rattle.sr_why.proofs.LawLemmas.{reasons-one}
use Rattle.sr_why.proofs.laws.reasons_are_determined.Goals as goal

pub returns : goal.returns
returns c = reasons-one
