use Rattle.std.proofs.Common.{ap, ◌∙◌, arith}
use Rattle.crossbeam_queue.specs.Passes.{view}
use Rattle.sr_loads.proofs.QueueLemmas.{takes, learns}
use Rattle.sr_loads.proofs.TallyLemmas.{tally-long}
use Rattle.sr_loads.proofs.BatchLemmas.{tally-batch}
use Rattle.sr_loads.proofs.forwarders.forward_on.Goals as goal

pub pop_as-requires-clause-rule : goal.pop_as-requires-clause-rule
pop_as-requires-clause-rule g c = let p = c.loop.invariant.parts in (takes _ _ (omega arith), learns _ _)

pub loop-preserved : goal.loop-preserved
loop-preserved g c =
    let was = c.loop.invariant in
    let rule = c.in-Some-pop_as.ensures.rule in
    let same = c.in-Some-pop_as.ensures.queue in
    record {
      can = tt;
      ends = tt;
      of = (same.0 ∙ was.of.0, same.2 ∙ was.of.1);
      parts = ap (λ v. v.parts) rule ∙ was.parts;
      pushed = ap (λ v. v.pushed) rule ∙ was.pushed;
      tally = rw (ap (λ v. v.taken) rule)
          (tally-batch c.tally.inside.traffic.now (view c.loop.pass).taken c.in-Some-pop_as.batch c.loop.counts.items c.forward_batch.new.counts.items was.tally c.forward_batch.ensures);
    }

pub forward_batch-requires : goal.forward_batch-requires
forward_batch-requires g c = tally-long c.tally.inside.traffic.now.net _ c.loop.counts.items c.loop.invariant.tally
