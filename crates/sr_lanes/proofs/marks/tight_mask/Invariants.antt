use Rattle.sr_lanes.specs.Marks.{AreMarked}
use Rattle.sr_lanes.proofs.marks.tight_mask.Given as goal

abbrev pub invariant-loop-v : goal.invariant-loop-v
invariant-loop-v l = AreMarked l.row l.cost l.base l.fn.hits l.v l.hits
