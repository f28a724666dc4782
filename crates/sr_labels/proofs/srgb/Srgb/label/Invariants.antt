use Rattle.sr_labels.proofs.RangeLoops.{IsLeft}
use Rattle.sr_labels.proofs.srgb.Srgb.label.Given as goal

abbrev pub invariant-loop-range : goal.invariant-loop-range
invariant-loop-range l = IsLeft l.range-items l.index l.range-index l.left
