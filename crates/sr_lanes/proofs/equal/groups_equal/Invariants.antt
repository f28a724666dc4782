use Rattle.std.proofs.Common.{◌≡◌, ◌*◌, take}
use Rattle.sr_lanes.proofs.equal.groups_equal.Given as goal

abbrev pub invariant-loop-group : goal.invariant-loop-group
invariant-loop-group l = take (8 * l.group) l.a ≡ take (8 * l.group) l.b
