use Rattle.std.proofs.Common.{◌≡◌, ◌-◌, All, vec_len}
use Rattle.crossbeam_queue.specs.Passes.{view, IsPassOf}
use Rattle.sr_loads.specs.Queue.{holding, all_parts}
use Rattle.sr_loads.specs.Forwarders.{Tally, IsOneOf}
use Rattle.sr_loads.proofs.forwarders.tallies_of.Given as goal

-- a part is given away for each tally so far
abbrev pub invariant-loop : goal.invariant-loop
invariant-loop l = record {
  of : IsPassOf l.queue l.pass;
  hand : view l.pass ≡ holding (all_parts - l.counter) (view l.fn.pass).pushed (view l.fn.pass).taken;
  tallies : (vec_len l.tallies ≡ l.counter) × All (λ (s : Tally). IsPassOf l.queue s.pass × IsOneOf l.traffic s) l.tallies.items;
}
