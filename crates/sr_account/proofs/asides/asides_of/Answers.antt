use Rattle.sr_account.proofs.ToldLemmas.{account-end, account-next, are-asides, within-next}
use Rattle.sr_account.proofs.asides.asides_of.Goals as goal

pub loop-id-preserved : goal.loop-id-preserved
loop-id-preserved c = record {
  within = within-next c.args.facts.now (c.in-Some.id.now, c.in-Some.stored.now) c.loop-id.id-iterator c.next.new.self c.loop-id.invariant.within c.in-Some.ensures.steps;
  ready = c.in_ok-add.ensures.ready;
  told = account-next c.args.facts.now (c.in-Some.id.now, c.in-Some.stored.now) c.loop-id.id-iterator c.next.new.self c.loop-id.out.items c.add.new.out.items c.in-Some.ensures.steps c.in_ok-add.ensures.told c.loop-id.invariant.told;
}

pub returns : goal.returns
returns c = are-asides c.args.facts.now c.loop-id.out.items c.loop-id.invariant.ready.survey.order (account-end c.args.facts.now c.loop-id.id-iterator c.loop-id.out.items c.in-None.ensures.steps.0 c.loop-id.invariant.told)
