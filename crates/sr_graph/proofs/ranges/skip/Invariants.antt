use Rattle.std.proofs.Common.{ℕ, ◌<◌, ◌≤◌}
use Rattle.sr_graph.specs.Ranges.{tail_in}
use Rattle.sr_graph.proofs.ranges.skip.Given as goal

abbrev pub invariant-loop-i : goal.invariant-loop-i
invariant-loop-i l = (l.place ≤ l.i) × ((k : ℕ) → l.place ≤ k → k < l.i → tail_in l.links k < l.node)
