use Rattle.std.proofs.Common.{ℕ, ◌<◌}
use Rattle.sr_model.specs.Label.{range_at, AreApart}
use Rattle.sr_labels.proofs.srgb.is_good_at.Given as goal

abbrev pub invariant-loop-earlier : goal.invariant-loop-earlier
invariant-loop-earlier l = (i : ℕ) → i < l.earlier → AreApart (range_at l.ranges i) (range_at l.ranges l.place)
