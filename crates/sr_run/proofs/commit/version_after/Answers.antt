use Rattle.sr_run.proofs.SearchLemmas.{opening-counts}
use Rattle.sr_run.proofs.commit.version_after.Goals as goal

pub returns-in-Err-clause-searches : goal.returns-in-Err-clause-searches
returns-in-Err-clause-searches g c =
    opening-counts c.args.current.now c.args.net c.args.steps.now c.opening.new.steps c.in-Err.ensures.0 c.opening.ensures.least c.opening.ensures.most
