use Rattle.std.proofs.Common.{◌<◌, arith}
use Rattle.sr_model.specs.Graph.{node_count}
use Rattle.sr_delta.specs.Cases.{IsEndAlike}
use Rattle.sr_delta.proofs.PairLemmas.{each-up}
use Rattle.sr_delta.proofs.ends.is_each_end_alike.Goals as goal

pub is_end_alike-requires-clause-few : goal.is_end_alike-requires-clause-few
is_end_alike-requires-clause-few c = omega (arith, c.loop-d-test.true, c.node_count-d-end.ensures.count, c.node_count-d-end.ensures.graph.few_nodes)

pub returns-then-not-is_end_alike : goal.returns-then-not-is_end_alike
returns-then-not-is_end_alike c = λ m changes same.
    let within : c.loop-d.d < node_count c.args.old.now.net.graph = omega (arith, c.loop-d-test.true, rw c.graph.ensures.graph at c.node_count-d-end.ensures.count) in (
      λ is. absurd (cc),
      λ all. let this = (c.is_end_alike.ensures m changes same).1 (all c.loop-d.d within) in let not = c.if-not-is_end_alike.true in cc,
    )

pub loop-d-preserved : goal.loop-d-preserved
loop-d-preserved c = λ m changes same.
    each-up
    (λ k. IsEndAlike c.args.old.now.net m c.args.old.now.case k)
    c.loop-d.d
    (c.loop-d.invariant m changes same)
    ((c.is_end_alike.ensures m changes same).0 (let not = c.if-not-is_end_alike.false in cc))
