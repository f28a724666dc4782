-- the ranges so far fit
use Rattle.std.proofs.Common.{ℕ, ◌<◌, slice_index_or}
use Rattle.sr_subtlv.specs.SrCap.{FitsRange}
use Rattle.sr_model.specs.declared.label.Range.{Range}
use Rattle.sr_subtlv.proofs.sr_cap.fit_ranges.Given as goal

abbrev pub invariant-loop-range : goal.invariant-loop-range
invariant-loop-range l = (k : ℕ) (d : Range) → k < l.range-index → FitsRange (slice_index_or l.ranges k d)
