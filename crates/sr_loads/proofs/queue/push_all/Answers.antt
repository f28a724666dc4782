use Rattle.std.proofs.Common.{◌∙◌, ap, arith}
use Rattle.std.specs.List.{range_with_len}
use Rattle.std.proofs.lemmas.List.FromFn.{length-range_with_len}
use Rattle.crossbeam_queue.specs.Passes.{view}
use Rattle.sr_loads.proofs.QueueLemmas.{pushes, learns, not-full, pushed-more}
use Rattle.sr_loads.proofs.queue.push_all.Goals as goal

pub push_as-requires-clause-rule : goal.push_as-requires-clause-rule
push_as-requires-clause-rule g c = let p = ap (λ v. v.parts) c.loop-batch.invariant.hand in (pushes _ _ _ _ (omega arith), learns _ _)

pub unreachable-requires : goal.unreachable-requires
unreachable-requires g c =
    not-full (view c.loop-batch.pass) c.args.batches (range_with_len 0 c.loop-batch.batch)
    (omega (arith, length-range_with_len 0 c.loop-batch.batch, c.loop-batch-test.true))
    c.loop-batch.invariant.hand (rw c.requires.room at c.in-Err.ensures.rule.2)

pub loop-batch-preserved : goal.loop-batch-preserved
loop-batch-preserved g c =
    let was = c.loop-batch.invariant in
    let same = c.in-Ok.ensures.queue in
    record {
      of = (same.0 ∙ was.of.0, same.2 ∙ was.of.1);
      hand = pushed-more c.loop-batch.batch (view c.loop-batch.pass) (view c.push_as.new.pass) was.hand c.in-Ok.ensures.rule;
    }
