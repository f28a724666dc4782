use Rattle.sr_rules.proofs.LinksLemmas.{repeated-none, repeated-some}
use Rattle.sr_rules.proofs.links.duplicate_link.Goals as goal

pub returns-in-None : goal.returns-in-None
returns-in-None c = repeated-none c.args.facts.now c.args.links.now c.requires.same c.in-None.ensures

pub returns-in-Some : goal.returns-in-Some
returns-in-Some c = repeated-some c.args.facts.now c.args.links.now c.requires.same c.in-Some.key c.in-Some.ensures
