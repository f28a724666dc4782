-- the lines so far stand behind
use Rattle.std.proofs.Common.{◌≡◌, ◌++◌, take}
use Rattle.std.specs.List.{flat_map}
use Rattle.sr_print.specs.Differences.{marked_line}
use Rattle.sr_print.proofs.difference.put_each_marked.Given as goal

abbrev pub invariant-loop-item : goal.invariant-loop-item
invariant-loop-item l = l.out.items ≡ l.fn.out.items ++ flat_map (marked_line l.mark l.net) (take l.item-index l.items)
