use Rattle.std.proofs.Common.{arith, below_more}
use Rattle.sr_labels.specs.Indices.{entry_at}
use Rattle.sr_labels.proofs.IndexOrder.{least_outside, no_outside, inside-below}
use Rattle.sr_labels.proofs.indices.first_outside.Goals as goal
use Rattle.sr_labels.proofs.indices.first_outside.Goals.{then-index-least+in-None, else-index-least}

pub returns-in-Some : goal.returns-in-Some
returns-in-Some c = least_outside c.args.nodes.now c.args.list.now c.requires.list c.loop-entry.entry-index (omega arith) c.in-Some.node c.loop-entry.invariant c.in-Some.ensures

pub loop-entry-preserved : goal.loop-entry-preserved
loop-entry-preserved c = below_more _ _ c.loop-entry.invariant (elim c.if-index-least.branch [
  | then-index-least+in-None w ↦ w.in-None.ensures
  | else-index-least w ↦ inside-below c.args.nodes.now c.args.least (entry_at c.args.list.now c.loop-entry.entry-index).index c.requires.least (omega arith)
])

pub returns : goal.returns
returns c = no_outside c.args.nodes.now c.args.list.now c.requires.list c.loop-entry.entry-index (omega arith) c.loop-entry.invariant
