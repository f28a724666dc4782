-- the lines so far stand behind
use Rattle.std.proofs.Common.{◌≡◌, ◌++◌, take}
use Rattle.std.specs.List.{flat_map}
use Rattle.sr_print.specs.Insight.{stack_line}
use Rattle.sr_print.proofs.insight.put_stacks.Given as goal

abbrev pub invariant-loop-stack : goal.invariant-loop-stack
invariant-loop-stack l = l.out.items ≡ l.fn.out.items ++ flat_map stack_line (take l.stack-index l.stacks)
