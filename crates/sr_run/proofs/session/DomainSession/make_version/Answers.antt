use Rattle.sr_run.proofs.SearchLemmas.{unsearched-counts}
use Rattle.sr_run.proofs.session.DomainSession.make_version.Goals as goal

pub returns-in-Ok-Some-clause-searches : goal.returns-in-Ok-Some-clause-searches
returns-in-Ok-Some-clause-searches g c = unsearched-counts c.args.self.now.current c.in-Ok-Some.version.net c.args.steps.now
