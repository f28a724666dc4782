use Rattle.std.proofs.Common.{◌≡◌, ◌<◌, length, [], true, ⊎_elim, arith, sym, ◌∙◌, subst}
use Rattle.std.specs.Prelude.{slice_index}
use Rattle.std.proofs.lemmas.Bool.{true≢false}
use Rattle.sr_lanes.specs.Bits.{is_in}
use Rattle.sr_lanes.specs.Passes.{is_tight}
use Rattle.sr_model.specs.Graph.{carries}
use Rattle.sr_model.specs.Walk.{IsOnWay}
use Rattle.sr_spf.specs.Trees.{cell_at}
use Rattle.sr_spaces.proofs.SpaceLemmas.{tree_cell}
use Rattle.sr_spaces.proofs.AroundLemmas.{way-sum, way-passes, sum-way, end-way}
use Rattle.sr_spaces.proofs.OverLemmas.{tight-told, told-same, told-tested}
use Rattle.sr_spaces.proofs.among.through_node.Goals as goal

pub returns-then-not-carries : goal.returns-then-not-carries
returns-then-not-carries c v =
    told-same (is_in c.only.result v) (is_in c.args.among v) (v ≡ c.args.node.0) (IsOnWay c.args.graph.now [] c.args.u.0 v c.args.node.0) (c.only.ensures v) (λ m.
    let near = c.requires.reached.each v m in
    let whole = tree_cell c.args.graph.now c.args.trees.now c.args.u.0 v c.requires.reached.trees c.requires.reached.begins near.0 in (
      λ same. subst (λ k. IsOnWay c.args.graph.now [] c.args.u.0 v k) same (end-way c.args.graph.now c.args.u.0 v (cell_at c.args.trees.now c.args.u.0 v) (whole.near near.1)),
      λ way. ⊎_elim
          (λ (same : c.args.node.0 ≡ v). sym same)
          (λ (carry : carries c.args.graph.now c.args.u.0 c.args.node.0 ≡ true). absurd (true≢false (sym (c.carries.ensures ∙ carry) ∙ c.if-not-carries.true)))
          (way-passes c.args.graph.now c.args.u.0 v c.args.node.0 _ _ _
          (tree_cell c.args.graph.now c.args.trees.now c.args.u.0 c.args.node.0 c.requires.reached.trees c.requires.reached.begins c.requires.node) (tree_cell c.args.graph.now c.args.trees.now c.args.node.0 v c.requires.reached.trees c.requires.node near.0) whole near.1 way),
    ))

pub returns : goal.returns
returns c v =
    let row = c.args.row.now in
    let base = c.cells.result.now in
    told-tested (is_in c.tight_among.result v) (is_in c.args.among v) (is_tight row (slice_index row c.args.node.0) base v) (IsOnWay c.args.graph.now [] c.args.u.0 v c.args.node.0) (c.tight_among.ensures v) (λ m.
    let near = c.requires.reached.each v m in
    let lt : v < length row = rw c.requires.reached.row (omega (arith, (c.requires.reached.trees.rows c.args.u.0 c.requires.reached.begins).long, near.0)) in
    let told = tight-told row base (slice_index row c.args.node.0) v lt in
    let first = tree_cell c.args.graph.now c.args.trees.now c.args.u.0 c.args.node.0 c.requires.reached.trees c.requires.reached.begins c.requires.node in
    let second = tree_cell c.args.graph.now c.args.trees.now c.args.node.0 v c.requires.reached.trees c.requires.node near.0 in
    let whole = tree_cell c.args.graph.now c.args.trees.now c.args.u.0 v c.requires.reached.trees c.requires.reached.begins near.0 in (
      λ yes. sum-way c.args.graph.now c.args.u.0 v c.args.node.0 _ _ _ first second whole near.1 (sym c.carries.ensures ∙ c.if-not-carries.false) (rw (c.requires.reached.row, c.cells.ensures.cells) at (told.0 yes)),
      λ way. told.1 (rw (c.requires.reached.row, c.cells.ensures.cells) (way-sum c.args.graph.now c.args.u.0 v c.args.node.0 _ _ _ first second whole near.1 way)),
    ))
