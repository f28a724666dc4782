use Rattle.std.proofs.Common.{◌≡◌, ◌+◌, ◌<◌, All, length}
use Rattle.crossbeam_queue.specs.Passes.{view, IsPassOf}
use Rattle.sr_loads.specs.Queue.{all_parts}
use Rattle.sr_loads.specs.Forwarders.{Tally, IsOneOf}
use Rattle.sr_loads.proofs.forwarders.gathered.Given as goal

-- the tallies so far are together, and the others are of the same traffic
abbrev pub invariant-loop-other : goal.invariant-loop-other
invariant-loop-other l = record {
  of : IsPassOf l.queue l.all.pass;
  traffic : l.all.traffic ≡ l.fn.mine.traffic;
  parts : (view l.all.pass).parts + length l.other-iterator.rest.items ≡ all_parts;
  some : 0 < (view l.all.pass).parts;
  pushed : (view l.all.pass).pushed ≡ (view l.fn.mine.pass).pushed;
  others : All (λ (s : Tally). IsPassOf l.queue s.pass × IsOneOf l.fn.mine.traffic s) l.other-iterator.rest.items;
}
