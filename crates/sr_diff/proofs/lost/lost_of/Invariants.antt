use Rattle.std.proofs.Common.{take}
use Rattle.sr_diff.specs.Diff.{IsLost, AreSuch}
use Rattle.sr_diff.proofs.lost.lost_of.Given as goal

-- the lost ones among the items so far
abbrev pub invariant-loop-item : goal.invariant-loop-item
invariant-loop-item l = AreSuch (IsLost l.fn.net l.fn.other.net) (take l.item-index l.fn.items) l.lost.items
