use Rattle.std.proofs.Common.{arith}
use Rattle.sr_rules.specs.RuleSurvey.{nodes_with}
use Rattle.sr_labels.proofs.Clashes.{least_taken, least_repeated, none_in_order}
use Rattle.sr_rules.proofs.adjacencies.first_in_order.Goals as goal
use Rattle.sr_rules.proofs.adjacencies.first_in_order.Goals.{then-is_taken-via-then-is_taken, then-is_taken-via-else-is_taken+then-is_repeated}

pub returns-then-is_taken : goal.returns-then-is_taken
returns-then-is_taken c = elim c.then-is_taken.branch [
  | then-is_taken-via-then-is_taken w ↦ least_taken (nodes_with c.args.ranges.now) c.args.list.now c.loop-place.place c.requires.order c.loop-place.invariant (omega arith) (c.is_taken.ensures.0 w.if-is_taken.true)
  | then-is_taken-via-else-is_taken+then-is_repeated w ↦ least_repeated (nodes_with c.args.ranges.now) c.args.list.now c.loop-place.place c.requires.order c.loop-place.invariant (omega arith) (w.is_repeated.ensures.0 w.if-is_repeated.true)
]

pub returns : goal.returns
returns c = none_in_order (nodes_with c.args.ranges.now) c.args.list.now c.loop-place.place c.requires.order (omega arith) c.loop-place.invariant
