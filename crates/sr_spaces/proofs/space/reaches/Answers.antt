use Rattle.std.proofs.Common.{◌≡◌, ◌<◌, ◌+◌, [], true, ⊎_elim, refl, arith, ap, sym, ◌∙◌, subst}
use Rattle.std.specs.Prelude.{slice_index}
use Rattle.sr_model.specs.Graph.{carries}
use Rattle.sr_model.specs.Walk.{IsOnWay}
use Rattle.sr_spf.specs.Trees.{cell_at}
use Rattle.sr_spaces.proofs.SpaceLemmas.{tree_cell}
use Rattle.sr_spaces.proofs.AroundLemmas.{way-sum, way-passes, sum-way, end-way}
use Rattle.sr_spaces.proofs.space.reaches.Goals as goal

pub returns-then-node-v : goal.returns-then-node-v
returns-then-node-v c = (
  λ _. subst (λ k. IsOnWay c.args.graph.now [] c.args.u.0 c.args.v.0 k) (sym c.if-node-v.true)
      (end-way c.args.graph.now c.args.u.0 c.args.v.0 (cell_at c.args.trees.now c.args.u.0 c.args.v.0) ((tree_cell c.args.graph.now c.args.trees.now c.args.u.0 c.args.v.0 c.requires.reached.trees c.requires.reached.begins c.requires.reached.ends).near c.requires.reached.near)),
  λ _. refl,
)

pub returns-then-first-whole : goal.returns-then-first-whole
returns-then-first-whole c = (
  λ no. absurd (cc),
  λ way.
      let sum : cell_at c.args.trees.now c.args.u.0 c.args.node.0 + cell_at c.args.trees.now c.args.node.0 c.args.v.0 ≡ cell_at c.args.trees.now c.args.u.0 c.args.v.0 = way-sum c.args.graph.now c.args.u.0 c.args.v.0 c.args.node.0 _ _ _
      (tree_cell c.args.graph.now c.args.trees.now c.args.u.0 c.args.node.0 c.requires.reached.trees c.requires.reached.begins c.requires.node) (tree_cell c.args.graph.now c.args.trees.now c.args.node.0 c.args.v.0 c.requires.reached.trees c.requires.node c.requires.reached.ends) (tree_cell c.args.graph.now c.args.trees.now c.args.u.0 c.args.v.0 c.requires.reached.trees c.requires.reached.begins c.requires.reached.ends) c.requires.reached.near way in
      let more : slice_index c.args.row.now c.args.v.0 < slice_index c.args.row.now c.args.node.0 = c.if-first-whole.true in
      absurd (omega (arith, ap (λ row. slice_index row c.args.v.0) c.requires.reached.row, ap (λ row. slice_index row c.args.node.0) c.requires.reached.row)),
)

pub returns-then-first-cells : goal.returns-then-first-cells
returns-then-first-cells c = (
  λ no. absurd (cc),
  λ way.
      let sum : cell_at c.args.trees.now c.args.u.0 c.args.node.0 + cell_at c.args.trees.now c.args.node.0 c.args.v.0 ≡ cell_at c.args.trees.now c.args.u.0 c.args.v.0 = way-sum c.args.graph.now c.args.u.0 c.args.v.0 c.args.node.0 _ _ _
      (tree_cell c.args.graph.now c.args.trees.now c.args.u.0 c.args.node.0 c.requires.reached.trees c.requires.reached.begins c.requires.node) (tree_cell c.args.graph.now c.args.trees.now c.args.node.0 c.args.v.0 c.requires.reached.trees c.requires.node c.requires.reached.ends) (tree_cell c.args.graph.now c.args.trees.now c.args.u.0 c.args.v.0 c.requires.reached.trees c.requires.reached.begins c.requires.reached.ends) c.requires.reached.near way in
      absurd (c.if-first-cells.true (rw (c.requires.reached.row, c.cells.ensures.cells) sum)),
)

pub returns : goal.returns
returns c = (
  λ yes.
      let sum : cell_at c.args.trees.now c.args.u.0 c.args.node.0 + cell_at c.args.trees.now c.args.node.0 c.args.v.0 ≡ cell_at c.args.trees.now c.args.u.0 c.args.v.0 = rw (c.requires.reached.row, c.cells.ensures.cells) at c.if-first-cells.false in
      sum-way c.args.graph.now c.args.u.0 c.args.v.0 c.args.node.0 _ _ _
      (tree_cell c.args.graph.now c.args.trees.now c.args.u.0 c.args.node.0 c.requires.reached.trees c.requires.reached.begins c.requires.node) (tree_cell c.args.graph.now c.args.trees.now c.args.node.0 c.args.v.0 c.requires.reached.trees c.requires.node c.requires.reached.ends) (tree_cell c.args.graph.now c.args.trees.now c.args.u.0 c.args.v.0 c.requires.reached.trees c.requires.reached.begins c.requires.reached.ends) c.requires.reached.near
      (sym c.carries.ensures ∙ yes) sum,
  λ way. ⊎_elim
      (λ (same : c.args.node.0 ≡ c.args.v.0). absurd (c.if-node-v.false same))
      (λ (carry : carries c.args.graph.now c.args.u.0 c.args.node.0 ≡ true). c.carries.ensures ∙ carry)
      (way-passes c.args.graph.now c.args.u.0 c.args.v.0 c.args.node.0 _ _ _
      (tree_cell c.args.graph.now c.args.trees.now c.args.u.0 c.args.node.0 c.requires.reached.trees c.requires.reached.begins c.requires.node) (tree_cell c.args.graph.now c.args.trees.now c.args.node.0 c.args.v.0 c.requires.reached.trees c.requires.node c.requires.reached.ends) (tree_cell c.args.graph.now c.args.trees.now c.args.u.0 c.args.v.0 c.requires.reached.trees c.requires.reached.begins c.requires.reached.ends) c.requires.reached.near
      way),
)
