use Rattle.std.proofs.Common.{◌≡◌, ℕ, ◌<◌}
use Rattle.sr_model.specs.Rule.{node_at}
use Rattle.sr_labels.proofs.same.are_indexed_alike.Given as goal

abbrev pub invariant-loop-node : goal.invariant-loop-node
invariant-loop-node l = (v : ℕ) → v < l.node → (node_at l.other v).index ≡ (node_at l.one v).index
