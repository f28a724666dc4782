use Rattle.sr_script.proofs.LineLemmas.{one-thing}
use Rattle.sr_script.proofs.law.line_says_one_thing.Goals as goal

pub returns : goal.returns
returns c = one-thing c.args.line.now
