use Rattle.sr_script.proofs.LineLemmas.{faults-agree}
use Rattle.sr_script.proofs.law.fault_is_unique.Goals as goal

pub returns : goal.returns
returns c = faults-agree c.args.line.now
