use Rattle.std.proofs.Common.{◌≡◌, ℕ, ◌<◌, ◌+◌, length, [], true, arith, sym, ◌∙◌, subst}
use Rattle.std.specs.Prelude.{slice_index}
use Rattle.std.proofs.lemmas.Bool.{true≢false}
use Rattle.sr_lanes.specs.Bits.{is_in}
use Rattle.sr_lanes.specs.Passes.{is_tight}
use Rattle.sr_model.specs.declared.link.TheConstants.{FAR}
use Rattle.sr_model.specs.Graph.{link_count, carries}
use Rattle.sr_model.specs.Walk.{OnShortest}
use Rattle.sr_walks.proofs.Walks.{carries-clear}
use Rattle.sr_walks.proofs.Distances.{OnShortest-carries}
use Rattle.sr_spf.specs.Trees.{cell_at}
use Rattle.sr_spaces.proofs.SpaceLemmas.{OnShortest-within, OnShortest-sum, sum-OnShortest}
use Rattle.sr_spaces.proofs.OverLemmas.{over-end, end-over, overloaded_end, tight-told, told-none, told-same, told-tested}
use Rattle.sr_spaces.proofs.among.over_link.Goals.{then-over-row-via-then-over-row, then-over-row-via-else-over-row+then-not-carries}
use Rattle.sr_spaces.proofs.among.over_link.Goals as goal

pub returns-then-link-link_count : goal.returns-then-link-link_count
returns-then-link-link_count c v =
    told-none (is_in c.none.result v) (is_in c.args.among v) (OnShortest c.args.graph.now [] c.args.u.0 v c.args.link.0) (c.none.ensures v) (λ m on.
    let within : c.args.link.0 < link_count c.args.graph.now = OnShortest-within c.args.graph.now [] c.args.u.0 v c.args.link.0 on in
    absurd (omega arith))

pub returns-then-over-row : goal.returns-then-over-row
returns-then-over-row c v =
    told-none (is_in c.none-then-over-row.result v) (is_in c.args.among v) (OnShortest c.args.graph.now [] c.args.u.0 v c.args.link.0) (c.none-then-over-row.ensures v) (λ m on.
    let same = over-end c.args.graph.now c.args.trees.now c.args.u.0 c.args.link.0 c.edge-edge.result c.args.row.now c.requires.reached.trees c.requires.reached.begins c.edge-edge.ensures.from c.edge-edge.ensures.to c.edge-edge.ensures.metric c.requires.reached.row v on in
    let carry : carries c.args.graph.now c.args.u.0 c.edge-edge.result.from.0 ≡ true = rw c.edge-edge.ensures.from (OnShortest-carries c.args.graph.now [] c.args.u.0 v c.args.link.0 on).0 in
    elim c.then-over-row.branch [
      | then-over-row-via-then-over-row w ↦ w.if-over-row.true same
      | then-over-row-via-else-over-row+then-not-carries w ↦ true≢false (sym (w.carries.ensures ∙ carry) ∙ w.if-not-carries.true)
    ])

pub returns-then-overloaded : goal.returns-then-overloaded
returns-then-overloaded c v =
    told-same (is_in c.only.result v) (is_in c.args.among v) (v ≡ c.edge-edge.result.to.0) (OnShortest c.args.graph.now [] c.args.u.0 v c.args.link.0) (c.only.ensures v) (λ m. (
      λ same.
          let near : cell_at c.args.trees.now c.args.u.0 c.edge-edge.result.to.0 < FAR = subst (λ k. cell_at c.args.trees.now c.args.u.0 k < FAR) same (c.requires.reached.each v m).1 in
          subst (λ k. OnShortest c.args.graph.now [] c.args.u.0 k c.args.link.0) (sym same)
          (end-over c.args.graph.now c.args.trees.now c.args.u.0 c.args.link.0 c.edge-edge.result c.args.row.now c.requires.reached.trees c.requires.reached.begins c.edge-edge.ensures.from c.edge-edge.ensures.to c.edge-edge.ensures.metric c.requires.reached.row
          (omega arith) (sym c.carries.ensures ∙ c.if-not-carries.false) near c.if-over-row.false),
      λ on. overloaded_end c.args.graph.now c.args.u.0 v c.args.link.0 (rw c.edge-edge.ensures.to at (sym c.overloaded.ensures ∙ c.if-overloaded.true)) on ∙ sym c.edge-edge.ensures.to,
    ))

pub returns : goal.returns
returns c v =
    let row = c.args.row.now in
    let base = c.cells.result.now in
    let over : ℕ = slice_index row c.edge-edge.result.from.0 + c.edge-edge.result.metric in
    told-tested (is_in c.tight_among.result v) (is_in c.args.among v) (is_tight row over base v) (OnShortest c.args.graph.now [] c.args.u.0 v c.args.link.0) (c.tight_among.ensures v) (λ m.
    let near = c.requires.reached.each v m in
    let lt : v < length row = rw c.requires.reached.row (omega (arith, (c.requires.reached.trees.rows c.args.u.0 c.requires.reached.begins).long, near.0)) in
    let told = tight-told row base over v lt in (
      λ yes. sum-OnShortest c.args.graph.now c.args.trees.now c.args.u.0 v c.args.link.0 c.edge-edge.result row base c.requires.reached.trees c.requires.reached.begins near.0 near.1 c.edge-edge.ensures.from c.edge-edge.ensures.to c.edge-edge.ensures.metric c.requires.reached.row c.cells.ensures.cells
          (omega arith) (sym c.carries.ensures ∙ c.if-not-carries.false) (carries-clear c.args.graph.now v c.edge-edge.result.to.0 (sym c.overloaded.ensures ∙ c.if-overloaded.false)) (told.0 yes),
      λ on. told.1 (OnShortest-sum c.args.graph.now c.args.trees.now c.args.u.0 v c.args.link.0 c.edge-edge.result row base c.requires.reached.trees c.requires.reached.begins near.0 near.1 c.edge-edge.ensures.from c.edge-edge.ensures.to c.edge-edge.ensures.metric c.requires.reached.row c.cells.ensures.cells on),
    ))
