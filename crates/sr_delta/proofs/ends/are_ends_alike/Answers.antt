use Rattle.sr_model.specs.Graph.{node_count}
use Rattle.sr_delta.proofs.AlikeLemmas.{none-missing}
use Rattle.sr_delta.proofs.ends.are_ends_alike.Goals as goal

pub returns-then-is_empty : goal.returns-then-is_empty
returns-then-is_empty c = λ m changes same. (
  λ is d lt led. ((changes.alike same).indexed.each d lt).0
      (none-missing c.below-nodes.result c.args.changes.now.alike.indexed c.and_not.result (node_count c.args.old.now.net.graph)
      (rw (c.node_count.ensures.count, c.graph.ensures.graph) at c.below-nodes.ensures)
      (rw c.indexed_alike.ensures at c.and_not.ensures)
      (c.is_empty.ensures.0 (let one = c.if-is_empty.true in cc)) d lt),
  λ all. cc,
)

pub returns-else-is_empty : goal.returns-else-is_empty
returns-else-is_empty c = λ m changes same. c.is_each_end_alike.ensures m changes same
