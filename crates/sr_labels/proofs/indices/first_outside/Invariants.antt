use Rattle.std.proofs.Common.{ℕ, ◌<◌}
use Rattle.sr_labels.specs.Indices.{entry_at}
use Rattle.sr_labels.proofs.IndexLists.{IsInside}
use Rattle.sr_labels.proofs.indices.first_outside.Given as goal

abbrev pub invariant-loop-entry : goal.invariant-loop-entry
invariant-loop-entry l = (j : ℕ) → j < l.entry-index → IsInside l.nodes (entry_at l.list j).index
