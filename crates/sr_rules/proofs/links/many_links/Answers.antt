use Rattle.std.proofs.Common.{refl}
use Rattle.sr_rules.proofs.LinksLemmas.{few-links, many-links}
use Rattle.sr_rules.proofs.links.many_links.Goals as goal

pub returns-then-links-gt-MOST_LINKS : goal.returns-then-links-gt-MOST_LINKS
returns-then-links-gt-MOST_LINKS c = many-links c.args.facts.now c.args.links.now c.requires _ c.if-links-gt-MOST_LINKS.true refl

pub returns-else-links-gt-MOST_LINKS : goal.returns-else-links-gt-MOST_LINKS
returns-else-links-gt-MOST_LINKS c = few-links c.args.facts.now c.args.links.now c.requires c.if-links-gt-MOST_LINKS.false
