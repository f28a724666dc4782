use Rattle.std.proofs.Common.{ℕ, ◌+◌, ◌<◌, ◌≤◌, ◌⊎◌}
use Rattle.sr_model.specs.Label.{range_at}
use Rattle.sr_rules.proofs.adjacencies.is_in.Given as goal

abbrev pub invariant-loop-range : goal.invariant-loop-range
invariant-loop-range l = (k : ℕ) → k < l.range-index → (l.label < (range_at l.ranges k).first) ⊎ ((range_at l.ranges k).first + (range_at l.ranges k).size ≤ l.label)
