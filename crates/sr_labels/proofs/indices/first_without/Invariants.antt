use Rattle.std.proofs.Common.{ℕ, ◌<◌, ◌≢◌, None}
use Rattle.sr_model.specs.Label.{label_of}
use Rattle.sr_model.specs.Rule.{node_at}
use Rattle.sr_labels.proofs.indices.first_without.Given as goal

abbrev pub invariant-loop-node : goal.invariant-loop-node
invariant-loop-node l = (w : ℕ) → w < l.node → label_of (node_at l.nodes w).srgb l.index ≢ None
