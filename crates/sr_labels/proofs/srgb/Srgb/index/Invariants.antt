use Rattle.sr_labels.proofs.RangeLoops.{IsBelow}
use Rattle.sr_labels.proofs.srgb.Srgb.index.Given as goal

abbrev pub invariant-loop-range : goal.invariant-loop-range
invariant-loop-range l = IsBelow l.range-items l.label l.range-index l.below
