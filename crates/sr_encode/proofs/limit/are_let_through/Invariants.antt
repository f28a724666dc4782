use Rattle.std.proofs.Common.{ℕ, ◌<◌}
use Rattle.sr_encode.specs.Kept.{outcome_at}
use Rattle.sr_encode.specs.Limited.{IsLetThrough}
use Rattle.sr_encode.proofs.limit.are_let_through.Given as goal

-- so far each is let through
abbrev pub invariant-loop-place : goal.invariant-loop-place
invariant-loop-place l = (r : ℕ) → r < l.place → IsLetThrough l.limit (outcome_at l.outcomes r)
