use Rattle.std.proofs.Common.{arith}
use Rattle.sr_laws.proofs.Ranges.{good, sizes-few}
use Rattle.sr_labels.proofs.RangeLoops.{sizes-split}
use Rattle.sr_labels.proofs.srgb.size_of.Goals as goal

pub overflow_add-size : goal.overflow_add-size
overflow_add-size c = omega (arith, sizes-few c.args.ranges.now 1048576 (omega arith) (good _ c.requires), sizes-split c.args.ranges.now c.loop-range.range-index (omega arith))
