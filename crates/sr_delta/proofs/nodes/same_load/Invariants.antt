use Rattle.std.proofs.Common.{◌≡◌, ℕ, ◌<◌}
use Rattle.sr_model.specs.Graph.{is_overloaded}
use Rattle.sr_delta.proofs.nodes.same_load.Given as goal

abbrev pub invariant-loop-v : goal.invariant-loop-v
invariant-loop-v l = (k : ℕ) → k < l.v → is_overloaded l.old k ≡ is_overloaded l.new k
