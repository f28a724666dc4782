use Rattle.std.proofs.Common.{◌≡◌, ℕ, ◌≤◌, ◌<◌}
use Rattle.sr_graph.specs.Holdings.{group_at}
use Rattle.sr_graph.proofs.sharing.run_end.Given as goal

abbrev pub invariant-loop-place : goal.invariant-loop-place
invariant-loop-place l = (k : ℕ) → l.start ≤ k → k < l.place → group_at l.list k ≡ group_at l.list l.start
