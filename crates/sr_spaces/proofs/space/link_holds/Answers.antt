use Rattle.std.proofs.Common.{◌<◌, [], refl, arith, sym, ◌∙◌}
use Rattle.sr_model.specs.Graph.{link_count}
use Rattle.sr_spaces.proofs.SpaceLemmas.{OnShortest-within, OnShortest-sum, sum-OnShortest, OnShortest-ends}
use Rattle.sr_spaces.proofs.space.link_holds.Goals as goal

pub returns-then-link-link_count : goal.returns-then-link-link_count
returns-then-link-link_count c = (
  λ no. absurd (cc),
  λ on.
      let within : c.args.link.0 < link_count c.args.graph.now = OnShortest-within c.args.graph.now [] c.args.u.0 c.args.v.0 c.args.link.0 on in
      absurd (omega arith),
)

pub returns-then-over-whole : goal.returns-then-over-whole
returns-then-over-whole c = (
  λ no. absurd (cc),
  λ on.
      let sum = OnShortest-sum c.args.graph.now c.args.trees.now c.args.u.0 c.args.v.0 c.args.link.0 c.edge-edge.result _ _ c.requires.reached.trees c.requires.reached.begins c.requires.reached.ends c.requires.reached.near c.edge-edge.ensures.from c.edge-edge.ensures.to c.edge-edge.ensures.metric c.requires.reached.row refl on in
      absurd (omega (arith, sum)),
)

pub returns-then-over-cells : goal.returns-then-over-cells
returns-then-over-cells c = (
  λ no. absurd (cc),
  λ on. absurd (c.if-over-cells.true (OnShortest-sum c.args.graph.now c.args.trees.now c.args.u.0 c.args.v.0 c.args.link.0 c.edge-edge.result _ _ c.requires.reached.trees c.requires.reached.begins c.requires.reached.ends c.requires.reached.near c.edge-edge.ensures.from c.edge-edge.ensures.to c.edge-edge.ensures.metric c.requires.reached.row c.cells.ensures.cells on)),
)

pub returns-then-carries : goal.returns-then-carries
returns-then-carries c = (
  λ yes. sum-OnShortest c.args.graph.now c.args.trees.now c.args.u.0 c.args.v.0 c.args.link.0 c.edge-edge.result _ _ c.requires.reached.trees c.requires.reached.begins c.requires.reached.ends c.requires.reached.near c.edge-edge.ensures.from c.edge-edge.ensures.to c.edge-edge.ensures.metric c.requires.reached.row c.cells.ensures.cells
      (omega arith) (sym c.carries.ensures ∙ c.if-carries.true) (sym c.carries-then-carries.ensures ∙ yes) c.if-over-cells.false,
  λ on. c.carries-then-carries.ensures ∙ (OnShortest-ends c.args.graph.now c.args.trees.now c.args.u.0 c.args.v.0 c.args.link.0 c.edge-edge.result _ _ c.requires.reached.trees c.requires.reached.begins c.requires.reached.ends c.requires.reached.near c.edge-edge.ensures.from c.edge-edge.ensures.to c.edge-edge.ensures.metric c.requires.reached.row c.cells.ensures.cells on).1,
)

pub returns-else-carries : goal.returns-else-carries
returns-else-carries c = (
  λ yes. absurd (cc),
  λ on. c.carries.ensures ∙ (OnShortest-ends c.args.graph.now c.args.trees.now c.args.u.0 c.args.v.0 c.args.link.0 c.edge-edge.result _ _ c.requires.reached.trees c.requires.reached.begins c.requires.reached.ends c.requires.reached.near c.edge-edge.ensures.from c.edge-edge.ensures.to c.edge-edge.ensures.metric c.requires.reached.row c.cells.ensures.cells on).0,
)
