use Rattle.sr_run.proofs.DeterminedLines.{lines-determined}
use Rattle.sr_run.proofs.DeterminedScripts.{scripts-determined}
use Rattle.sr_run.proofs.laws.answers_are_determined.Goals as goal

pub returns : goal.returns
returns c = record { lines = lines-determined; scripts = scripts-determined }
