use Rattle.std.proofs.Common.{◌≡◌, ℕ, ◌<◌, [], length, slice_index_or}
use Rattle.sr_coverage.specs.Counting.{group_for, no_group}
use Rattle.sr_coverage.proofs.groups.empty_groups.Given as goal

-- the groups so far, with nothing counted
abbrev pub invariant-loop-number : goal.invariant-loop-number
invariant-loop-number l = record {
  long : length l.groups.items ≡ l.number;
  each : (k : ℕ) → k < l.number → slice_index_or l.groups.items k no_group ≡ group_for l.fn.grouping l.fn.graph [] k;
}
