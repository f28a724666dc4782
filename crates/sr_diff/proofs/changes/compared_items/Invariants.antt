use Rattle.std.proofs.Common.{take}
use Rattle.sr_diff.specs.Matched.{AreCompared}
use Rattle.sr_diff.proofs.changes.compared_items.Given as goal

-- the items so far are compared
abbrev pub invariant-loop-item : goal.invariant-loop-item
invariant-loop-item l =
    AreCompared l.fn.old.net l.fn.new (take l.item-index l.fn.items) (record { changed = l.changed.items; same = l.same })
