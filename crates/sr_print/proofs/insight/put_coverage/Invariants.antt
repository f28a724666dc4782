-- the lines so far stand behind
use Rattle.std.proofs.Common.{◌≡◌, ◌++◌, take}
use Rattle.std.specs.List.{flat_map}
use Rattle.sr_print.specs.Insight.{coverage_line}
use Rattle.sr_print.proofs.insight.put_coverage.Given as goal

abbrev pub invariant-loop-group : goal.invariant-loop-group
invariant-loop-group l = l.out.items ≡ l.fn.out.items ++ flat_map (coverage_line l.net l.grouping) (take l.group-index l.groups)
