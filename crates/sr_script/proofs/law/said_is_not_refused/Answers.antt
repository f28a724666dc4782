use Rattle.sr_script.proofs.LineLemmas.{said-agrees}
use Rattle.sr_script.proofs.law.said_is_not_refused.Goals as goal

pub returns : goal.returns
returns c = said-agrees c.args.line.now
