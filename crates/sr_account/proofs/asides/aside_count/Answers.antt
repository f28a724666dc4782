use Rattle.std.proofs.Common.{arith}
use Rattle.sr_account.proofs.ToldLemmas.{within-next}
use Rattle.sr_account.proofs.TakenLemmas.{counted-all, counted-next}
use Rattle.sr_account.proofs.asides.aside_count.Goals as goal

pub loop-id-preserved : goal.loop-id-preserved
loop-id-preserved c = record {
  within = within-next c.args.facts.now (c.in-Some.id.now, c.in-Some.stored.now) c.loop-id.id-iterator c.next.new.self c.loop-id.invariant.within c.in-Some.ensures.steps;
  ready = c.in_ok-add.ensures.ready;
  counted = counted-next c.args.facts.now (c.in-Some.id.now, c.in-Some.stored.now) c.loop-id.id-iterator c.next.new.self c.loop-id.count c.in-Some-checked_add.sum c.clear.new.self.items c.add.new.out.items c.in-Some.ensures.steps c.clear.ensures.items c.in_ok-add.ensures.told (omega (arith, c.in-Some-checked_add.ensures, c.len.ensures)) c.loop-id.invariant.counted;
}

pub returns : goal.returns
returns c = counted-all c.args.facts.now c.loop-id.id-iterator c.loop-id.count c.loop-id.invariant.ready.survey.order c.in-None.ensures.steps.0 c.loop-id.invariant.counted
