use Rattle.sr_engine.proofs.Determined.{splits-one}
use Rattle.sr_engine.proofs.laws.lines_are_determined.Goals as goal

pub returns : goal.returns
returns c = splits-one
