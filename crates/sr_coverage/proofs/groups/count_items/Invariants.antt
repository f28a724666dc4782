use Rattle.std.proofs.Common.{take}
use Rattle.sr_coverage.specs.Counting.{AreCounted}
use Rattle.sr_coverage.proofs.groups.count_items.Given as goal

-- the items so far are counted
abbrev pub invariant-loop-item : goal.invariant-loop-item
invariant-loop-item l = AreCounted l.fn.grouping l.fn.graph (take l.item-index l.fn.items) l.groups.items
