-- the segments so far stand behind
use Rattle.std.proofs.Common.{◌≡◌, ◌++◌, take}
use Rattle.std.specs.List.{flat_map}
use Rattle.sr_print.specs.Names.{named_segment}
use Rattle.sr_print.proofs.way.put_each_named.Given as goal

abbrev pub invariant-loop-segment : goal.invariant-loop-segment
invariant-loop-segment l = l.out.items ≡ l.fn.out.items ++ flat_map (named_segment l.names) (take l.segment-index l.segments)
