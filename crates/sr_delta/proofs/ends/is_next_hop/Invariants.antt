use Rattle.std.proofs.Common.{ℕ, ◌≢◌, ◌<◌}
use Rattle.sr_graph.specs.Members.{number_at}
use Rattle.sr_delta.proofs.ends.is_next_hop.Given as goal

abbrev pub invariant-loop-i : goal.invariant-loop-i
invariant-loop-i l = (k : ℕ) → k < l.i → number_at l.hops k ≢ l.link.0
