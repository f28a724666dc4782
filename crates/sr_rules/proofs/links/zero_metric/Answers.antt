use Rattle.sr_rules.proofs.LinksLemmas.{zero-none, zero-some}
use Rattle.sr_rules.proofs.links.zero_metric.Goals as goal

pub returns-in-None : goal.returns-in-None
returns-in-None c = zero-none c.args.facts.now c.args.links.now c.requires.same c.in-None.ensures

pub returns-in-Some : goal.returns-in-Some
returns-in-Some c = zero-some c.args.facts.now c.args.links.now c.requires.same c.in-Some.key c.in-Some.ensures
