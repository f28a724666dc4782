use Rattle.sr_rules.proofs.OutsideLemmas.{outside-none, outside-never, outside-some}
use Rattle.sr_rules.proofs.indices.index_outside.Goals as goal

pub returns-in-None : goal.returns-in-None
returns-in-None c = outside-none c.args.facts.now c.args.nodes.now c.args.ranges.now c.least_total.result c.requires.nodes c.requires.ranges c.least_total.ensures c.in-None.ensures

pub returns-in-None-first_without : goal.returns-in-None-first_without
returns-in-None-first_without c = absurd (outside-never c.args.facts.now c.args.nodes.now c.args.ranges.now c.least_total.result c.requires.nodes c.requires.ranges c.least_total.ensures c.in-Some.index c.first_without.ensures.bits c.in-Some.ensures c.in-None-first_without.ensures.first)

pub returns-in-Some-first_without : goal.returns-in-Some-first_without
returns-in-Some-first_without c = outside-some c.args.facts.now c.args.nodes.now c.args.ranges.now c.least_total.result c.requires.nodes c.requires.ranges c.least_total.ensures c.in-Some.index c.in-Some-first_without.place c.index-nodes-place.result c.in-Some.ensures c.in-Some-first_without.ensures.first c.index-nodes-place.is
