use Rattle.sr_rules.proofs.BrokenLemmas.{broken-determined}
use Rattle.sr_rules.proofs.laws.broken_rules_are_determined.Goals as goal

pub returns : goal.returns
returns c = broken-determined
