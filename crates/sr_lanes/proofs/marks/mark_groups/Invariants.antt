use Rattle.std.proofs.Common.{◌*◌}
use Rattle.sr_lanes.specs.Marks.{AreMarked}
use Rattle.sr_lanes.proofs.marks.mark_groups.Given as goal

abbrev pub invariant-loop-group : goal.invariant-loop-group
invariant-loop-group l = AreMarked l.row l.cost l.base l.fn.hits (8 * l.group) l.hits
