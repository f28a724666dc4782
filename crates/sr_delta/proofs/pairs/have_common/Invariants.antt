use Rattle.std.proofs.Common.{ℕ, ◌<◌}
use Rattle.std.specs.Prelude.{Contains, slice_index_or}
use Rattle.sr_delta.proofs.pairs.have_common.Given as goal

abbrev pub invariant-loop-i : goal.invariant-loop-i
invariant-loop-i l = (k : ℕ) → k < l.i → Contains l.other (slice_index_or l.one k 0) → ⊥
