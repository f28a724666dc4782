use Rattle.std.proofs.Common.{◌≡◌, ◌+◌, drop}
use Rattle.sr_model.specs.Label.{sizes}
use Rattle.sr_labels.proofs.srgb.size_of.Given as goal

abbrev pub invariant-loop-range : goal.invariant-loop-range
invariant-loop-range l = l.size + sizes (drop l.range-index l.ranges) ≡ sizes l.ranges
