use Rattle.std.proofs.Common.{◌≡◌, []}
use Rattle.std.specs.List.{range_with_len}
use Rattle.crossbeam_queue.specs.Passes.{view, IsPassOf}
use Rattle.sr_loads.specs.Queue.{holding, all_parts}
use Rattle.sr_loads.proofs.queue.push_all.Given as goal

-- the batches so far are pushed, by the pass with all parts
abbrev pub invariant-loop-batch : goal.invariant-loop-batch
invariant-loop-batch g l = record { of : IsPassOf l.queue l.pass; hand : view l.pass ≡ holding all_parts (range_with_len 0 l.batch) [] }
