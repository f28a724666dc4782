use Rattle.std.proofs.Common.{◌≡◌, ◌<◌, ◌≤◌, ℕ, false}
use Rattle.sr_model.specs.Graph.{has}
use Rattle.sr_model.specs.Space.{Adds}
use Rattle.sr_spaces.proofs.extended.in_extended_p.Given as goal

abbrev pub invariant-loop-link : goal.invariant-loop-link
invariant-loop-link l = (k : ℕ) → l.first ≤ k → k < l.link → has l.spaces.failed k ≡ false → Adds l.spaces.graph l.spaces.failed k l.v.0 → ⊥
