use Rattle.sr_audit.proofs.RestLemmas.{counts-there}
use Rattle.sr_run.proofs.kept.has_audit.Goals as goal

pub returns : goal.returns
returns c = counts-there c.args.version.now.net c.net-net.ensures.net c.is_answered.ensures
