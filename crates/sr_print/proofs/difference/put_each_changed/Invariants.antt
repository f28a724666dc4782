-- the lines so far stand behind
use Rattle.std.proofs.Common.{◌≡◌, ◌++◌, take}
use Rattle.std.specs.List.{flat_map}
use Rattle.sr_print.specs.Differences.{changed_lines}
use Rattle.sr_print.proofs.difference.put_each_changed.Given as goal

abbrev pub invariant-loop-one : goal.invariant-loop-one
invariant-loop-one l = l.out.items ≡ l.fn.out.items ++ flat_map (changed_lines l.old l.new) (take l.one-index l.changed)
