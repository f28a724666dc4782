use Rattle.std.proofs.Common.{◌≡◌, ◌+◌, true, length, get_or, refl, arith, sym, subst}
use Rattle.sr_model.specs.Graph.{tail, metric, carries}
use Rattle.sr_graph.specs.Members.{number_at}
use Rattle.sr_spf.proofs.BegunLemmas.{IsLeastSoFar, least-start, least-skip, least-lower, least-whole}
use Rattle.sr_spf.proofs.begun.least_way.Goals as goal
use Rattle.sr_spf.proofs.begun.least_way.Goals.{then-over-least+then-not-has+then-carries, else-over-least, else-over-least-via-then-over-least+then-not-has+else-carries, else-over-least-via-then-over-least+else-not-has, else-over-least-via-else-over-least}

pub loop-link-init : goal.loop-link-init
loop-link-init c = least-start _ _ _ _ _ _ _ refl

pub loop-link-preserved : goal.loop-link-preserved
loop-link-preserved c =
    let begins : tail c.args.graph.now (number_at c.links_to-link-items.result.now c.loop-link.link-index) ≡ c.edge-edge.result.from.0 = sym c.edge-edge.ensures.from in
    let over : get_or c.args.cells.now (tail c.args.graph.now (number_at c.links_to-link-items.result.now c.loop-link.link-index)) 0 + metric c.args.graph.now (number_at c.links_to-link-items.result.now c.loop-link.link-index) ≡ get_or c.args.cells.now c.edge-edge.result.from.0 0 + c.edge-edge.result.metric = rw (begins, ← c.edge-edge.ensures.metric) refl in
    elim c.if-over-least.branch [
      | then-over-least+then-not-has+then-carries w ↦ rw w.least-is (least-lower _ _ _ _ _ _ _ _ _ c.loop-link.invariant c.links_to-link-items.ensures.links c.loop-link-test.true (cc) (rw begins (cc)) over w.if-over-least.true)
      | else-over-least w ↦ rw w.least-is (least-skip _ _ _ _ _ _ _ _ c.loop-link.invariant (λ outside carry. elim w.else-over-least.branch [
        | else-over-least-via-then-over-least+then-not-has+else-carries w' ↦ let stays : carries c.args.graph.now c.args.source.0 c.edge-edge.result.from.0 ≡ true = (rw begins at carry) in absurd (cc)
        | else-over-least-via-then-over-least+else-not-has w' ↦ absurd (cc)
        | else-over-least-via-else-over-least w' ↦ omega (arith, over, w'.if-over-least.false)
      ]))
    ]

pub returns : goal.returns
returns c =
    let end : c.loop-link.link-index ≡ length c.links_to-link-items.result.now = omega (arith, c.loop-link.auto.link-index-end, c.loop-link-test.false) in
    least-whole _ _ _ _ _ _ _ (subst (λ k. IsLeastSoFar c.args.graph.now c.args.without.now c.args.source.0 c.args.cells.now c.links_to-link-items.result.now k c.args.node.0 c.loop-link.least) end c.loop-link.invariant) c.links_to-link-items.ensures.links
