use Rattle.std.proofs.Common.{ℕ, ◌<◌}
use Rattle.sr_encode.specs.Kept.{outcome_at}
use Rattle.sr_encode.specs.Renumbered.{KeepsPlace}
use Rattle.sr_encode.proofs.renumbered.keep_places.Given as goal

-- so far each keeps its place
abbrev pub invariant-loop-outcome : goal.invariant-loop-outcome
invariant-loop-outcome l = (r : ℕ) → r < l.outcome-index → KeepsPlace l.numbers (outcome_at l.outcomes r)
