use Rattle.sr_loads.proofs.Uniqueness.{loads-one}
use Rattle.sr_loads.proofs.laws.loads_are_unique.Goals as goal

pub returns : goal.returns
returns c = loads-one
