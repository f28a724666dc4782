use Rattle.std.proofs.Common.{arith, refl, ⊎_elim, subst, sym, ◌∙◌}
use Rattle.std.proofs.lemmas.Bool.{cases_eq}
use Rattle.sr_cert.specs.Settled.{heading_of, IsToldByLinks}
use Rattle.sr_cert.proofs.ExactLemmas.{exact-settled}
use Rattle.sr_cert.proofs.exact.is_exact.Goals as goal

pub loop-node-preserved : goal.loop-node-preserved
loop-node-preserved c = λ w lt. ⊎_elim
    (λ e. subst (λ k. IsToldByLinks c.args.graph.now c.args.x.now (heading_of c.args.course) c.args.cells.now k) (sym e) (c.settled.ensures.0 c.if-not-settled.false))
    (λ ne. c.loop-node.invariant w (omega (arith, lt, ne)))
    (cases_eq w c.loop-node.node)

pub returns-then-not-settled : goal.returns-then-not-settled
returns-then-not-settled c =
    let both = exact-settled c.args.graph.now c.args.x.now (heading_of c.args.course) c.args.cells.now c.node_count-node-end.ensures.graph c.requires.node c.requires.long in (
      λ no. absurd (cc),
      λ row. sym c.if-not-settled.true ∙ c.settled.ensures.1 (both.1 row c.loop-node.node (omega (arith, c.loop-node-test.true, c.node_count-node-end.ensures.count))),
    )

pub returns : goal.returns
returns c =
    let both = exact-settled c.args.graph.now c.args.x.now (heading_of c.args.course) c.args.cells.now c.node_count-node-end.ensures.graph c.requires.node c.requires.long in (
      λ _. both.0 (λ w within. c.loop-node.invariant w (omega (arith, within, c.node_count-node-end.ensures.count, c.loop-node-test.false))),
      λ _. refl,
    )
