use Rattle.std.proofs.Common.{◌≡◌, ℕ, ◌<◌, length, refl, sym, ◌∙◌, get_or, arith}
use Rattle.std.specs.Prelude.{◌&&◌, ◌==◌, not}
use Rattle.std.proofs.lemmas.Bool.{true≢false}
use Rattle.std.proofs.lemmas.Option.{slice_get_read, slice_get-get_or}
use Rattle.sr_model.specs.Case.{source_of}
use Rattle.sr_model.specs.Graph.{node_count}
use Rattle.sr_laws.specs.Steady.{pivot_of}
use Rattle.sr_lanes.specs.Bits.{is_in}
use Rattle.sr_delta.specs.Cases.{Computed}
use Rattle.sr_delta.proofs.SteadyLemmas.{left-from_steps, left-walked, none-from_steps, steps-from_far, steps-from_trees, walked-within}
use Rattle.sr_delta.proofs.steady.are_steps_kept.Goals as goal

pub returns-then-is_empty : goal.returns-then-is_empty
returns-then-is_empty c = λ m stay are.
    let old : Computed = c.args.old.now in
    let s : ℕ = source_of old.net.graph old.case in
    let at : c.edge.result.from.0 ≡ s = rw (c.graph-graph.ensures.graph, c.case-case.ensures.case) at c.edge.ensures.from in
    let minus : (v : ℕ) → is_in c.and_not.result v ≡ (is_in old.walks v && not (is_in c.args.staying.now.trees v)) = rw c.walks-walks.ensures.walks at c.and_not.ensures in
    let without : (v : ℕ) → is_in c.without-left.result v ≡ (not (v == s) && is_in c.and_not.result v) = rw at at c.without-left.ensures in (
      λ is. steps-from_trees old m c.args.staying.now c.and_not.result c.without-left.result c.case-case.ensures.computed stay minus without (c.is_empty.ensures.0 c.if-is_empty.true),
      λ steps. refl,
    )

pub are_as_far-requires-clause-inside : goal.are_as_far-requires-clause-inside
are_as_far-requires-clause-inside c = λ u is.
    let old : Computed = c.args.old.now in
    let s : ℕ = source_of old.net.graph old.case in
    let at : c.edge.result.from.0 ≡ s = rw (c.graph-graph.ensures.graph, c.case-case.ensures.case) at c.edge.ensures.from in
    let minus : (v : ℕ) → is_in c.and_not.result v ≡ (is_in old.walks v && not (is_in c.args.staying.now.trees v)) = rw c.walks-walks.ensures.walks at c.and_not.ensures in
    let without : (v : ℕ) → is_in c.without-left.result v ≡ (not (v == s) && is_in c.and_not.result v) = rw at at c.without-left.ensures in
    let lt : u < node_count old.net.graph = walked-within old c.case-case.ensures.computed u (left-walked old.walks c.args.staying.now.trees c.and_not.result c.without-left.result s u minus without is) in
    omega (arith, lt, c.requires)

pub returns-then-is_empty-2 : goal.returns-then-is_empty-2
returns-then-is_empty-2 c = λ m stay are.
    let old : Computed = c.args.old.now in
    let s : ℕ = source_of old.net.graph old.case in
    let t : ℕ = c.pivot_of-pivot.result.0 in
    let set = c.index-moved-pivot.result in
    let moved = c.args.moved.now in
    let at : c.edge.result.from.0 ≡ s = rw (c.graph-graph.ensures.graph, c.case-case.ensures.case) at c.edge.ensures.from in
    let minus : (v : ℕ) → is_in c.and_not.result v ≡ (is_in old.walks v && not (is_in c.args.staying.now.trees v)) = rw c.walks-walks.ensures.walks at c.and_not.ensures in
    let without : (v : ℕ) → is_in c.without-left.result v ≡ (not (v == s) && is_in c.and_not.result v) = rw at at c.without-left.ensures in
    let pivot : t ≡ pivot_of old.net.graph old.case = rw (c.graph-graph.ensures.graph, c.case-case.ensures.case) at c.pivot_of-pivot.ensures.pivot in
    let t_in : t < node_count old.net.graph = rw c.graph-graph.ensures.graph at c.pivot_of-pivot.ensures.within in
    let joint : (v : ℕ) → is_in c.and.result v ≡ (is_in set v && is_in old.walks v) = rw c.walks-walks.ensures.walks at c.and.ensures in
    let at_t = slice_get_read moved (length moved) t set refl (omega (arith, t_in, c.requires)) c.index-moved-pivot.is in (
      λ yes'. steps-from_far old m c.args.staying.now c.and_not.result c.without-left.result set c.and.result moved t
          c.case-case.ensures.computed stay are minus without pivot t_in at_t
          joint (c.is_empty-2.ensures.0 c.if-is_empty-2.true) (c.are_as_far.ensures.0 yes')
          (λ u lt. (get_or moved u set, slice_get-get_or moved u set (omega (arith, lt, c.requires)))),
      λ steps. c.are_as_far.ensures.1 (left-from_steps old m c.args.staying.now c.and_not.result c.without-left.result moved t
          c.case-case.ensures.computed stay are minus without pivot t_in steps),
    )

pub returns-else-is_empty-2 : goal.returns-else-is_empty-2
returns-else-is_empty-2 c = λ m stay are.
    let old : Computed = c.args.old.now in
    let s : ℕ = source_of old.net.graph old.case in
    let t : ℕ = c.pivot_of-pivot.result.0 in
    let set = c.index-moved-pivot.result in
    let moved = c.args.moved.now in
    let at : c.edge.result.from.0 ≡ s = rw (c.graph-graph.ensures.graph, c.case-case.ensures.case) at c.edge.ensures.from in
    let minus : (v : ℕ) → is_in c.and_not.result v ≡ (is_in old.walks v && not (is_in c.args.staying.now.trees v)) = rw c.walks-walks.ensures.walks at c.and_not.ensures in
    let without : (v : ℕ) → is_in c.without-left.result v ≡ (not (v == s) && is_in c.and_not.result v) = rw at at c.without-left.ensures in
    let pivot : t ≡ pivot_of old.net.graph old.case = rw (c.graph-graph.ensures.graph, c.case-case.ensures.case) at c.pivot_of-pivot.ensures.pivot in
    let t_in : t < node_count old.net.graph = rw c.graph-graph.ensures.graph at c.pivot_of-pivot.ensures.within in
    let joint : (v : ℕ) → is_in c.and.result v ≡ (is_in set v && is_in old.walks v) = rw c.walks-walks.ensures.walks at c.and.ensures in
    let at_t = slice_get_read moved (length moved) t set refl (omega (arith, t_in, c.requires)) c.index-moved-pivot.is in (
      λ is. absurd (cc),
      λ steps. absurd (true≢false (sym (c.is_empty-2.ensures.1
          (none-from_steps old m c.args.staying.now c.and_not.result c.without-left.result set c.and.result moved t
          c.case-case.ensures.computed stay are minus without pivot at_t joint steps
          (λ empty. true≢false (sym (c.is_empty.ensures.1 empty) ∙ c.if-is_empty.false))))
          ∙ c.if-is_empty-2.false)),
    )
