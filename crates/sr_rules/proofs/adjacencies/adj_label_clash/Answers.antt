use Rattle.sr_rules.proofs.ClashLemmas.{clash-none, clash-some}
use Rattle.sr_rules.proofs.adjacencies.adj_label_clash.Goals as goal

pub returns-in-None : goal.returns-in-None
returns-in-None c = clash-none c.args.facts.now c.args.survey.now c.requires (rw (c.deref.ensures.value, c.deref-2.ensures.value) at c.in-None.ensures)

pub returns-in-Some : goal.returns-in-Some
returns-in-Some c =
    clash-some c.args.facts.now c.args.survey.now c.requires c.in-Some.field-0.label c.in-Some.field-0.node c.index.result.now
    (rw (c.deref.ensures.value, c.deref-2.ensures.value) at c.in-Some.ensures) c.index.ensures
