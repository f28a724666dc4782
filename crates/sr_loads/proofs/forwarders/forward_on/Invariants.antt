use Rattle.std.proofs.Common.{◌≡◌}
use Rattle.crossbeam_queue.specs.Passes.{view, IsPassOf}
use Rattle.sr_loads.specs.Tally.{IsTallyOf}
use Rattle.sr_loads.proofs.forwarders.forward_on.Given as goal

-- the batches that the pass took are counted; its parts, and what it pushed, stay
abbrev pub invariant-loop : goal.invariant-loop
invariant-loop g l = record {
  can : (goal.iterator-loop g).can_next l.iterator';
  ends : (goal.iterator-loop g).is_finite l.iterator';
  of : IsPassOf l.queue l.pass;
  parts : (view l.pass).parts ≡ (view l.fn.tally.pass).parts;
  pushed : (view l.pass).pushed ≡ (view l.fn.tally.pass).pushed;
  tally : IsTallyOf l.traffic (view l.pass).taken l.counts.items;
}
