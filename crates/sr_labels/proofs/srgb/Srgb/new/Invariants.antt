use Rattle.std.proofs.Common.{ℕ, ◌<◌}
use Rattle.sr_model.specs.Label.{IsGoodAt}
use Rattle.sr_labels.proofs.srgb.Srgb.new.Given as goal

abbrev pub invariant-loop-place : goal.invariant-loop-place
invariant-loop-place l = (j : ℕ) → j < l.place → IsGoodAt l.ranges.items j
