use Rattle.sr_why.proofs.ReachedLemmas.{count-yes, count-no}
use Rattle.sr_why.proofs.reached.reached_count.Goals as goal
use Rattle.sr_why.proofs.reached.reached_count.Goals.{then-is_reached, else-is_reached}

pub loop-node-preserved : goal.loop-node-preserved
loop-node-preserved c =
    let k = c.loop-node.invariant in
    elim c.if-is_reached.branch [
      | then-is_reached w ↦ rw w.count-is (count-yes c.args.cells.now c.args.source.0 c.loop-node.node c.loop-node.count k (c.is_reached.ensures.0 w.if-is_reached.true))
      | else-is_reached w ↦ rw w.count-is (count-no c.args.cells.now c.args.source.0 c.loop-node.node c.loop-node.count k (λ found. let yes = c.is_reached.ensures.1 found in let no = w.if-is_reached.false in absurd {0} (cc)))
    ]
