use Rattle.std.proofs.Common.{ℕ, ◌<◌, ◌≤◌}
use Rattle.sr_model.specs.Label.{IsSrgb, sizes}
use Rattle.sr_model.specs.Rule.{node_at}
use Rattle.sr_labels.proofs.indices.least_size.Given as goal

abbrev pub invariant-loop-node : goal.invariant-loop-node
invariant-loop-node l = ((w : ℕ) → w < l.node → IsSrgb (node_at l.nodes w).srgb) × ((w : ℕ) → w < l.node → l.least ≤ sizes (node_at l.nodes w).srgb)
