use Rattle.std.proofs.Common.{take}
use Rattle.sr_coverage.specs.Pushed.{AreTallied}
use Rattle.sr_coverage.proofs.pushed.tallied.Given as goal

-- the items so far are counted
abbrev pub invariant-loop-item : goal.invariant-loop-item
invariant-loop-item l = AreTallied l.fn.width (take l.item-index l.fn.items) l.table.items
