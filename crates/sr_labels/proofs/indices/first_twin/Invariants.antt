use Rattle.std.proofs.Common.{ℕ, ◌<◌}
use Rattle.sr_labels.specs.Indices.{IsTwin}
use Rattle.sr_labels.proofs.indices.first_twin.Given as goal

abbrev pub invariant-loop-place : goal.invariant-loop-place
invariant-loop-place l = (0 < l.place) × ((j : ℕ) → j < l.place → IsTwin l.list j → ⊥)
