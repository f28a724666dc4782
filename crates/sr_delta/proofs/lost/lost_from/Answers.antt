use Rattle.std.proofs.Common.{◌≡◌, ◌↔◌, true, List, length, refl, arith, sym, ◌∙◌, subst, get_or}
use Rattle.std.proofs.lemmas.Bool.{true≢false}
use Rattle.std.proofs.lemmas.List.{get_or_default}
use Rattle.sr_lanes.specs.Bits.{is_in}
use Rattle.sr_spf.specs.Trees.{row_at}
use Rattle.sr_delta.specs.declared.change.Change.{Change}
use Rattle.sr_delta.specs.Changed.{change_at, no_change}
use Rattle.sr_delta.specs.Idle.{IsIdleChange}
use Rattle.sr_delta.specs.Lost.{IsPast, AreLostToFirst}
use Rattle.sr_delta.proofs.PastLemmas.{lost-idle, lost-more, lost-over}
use Rattle.sr_delta.proofs.lost.lost_from.Goals as goal
use Rattle.sr_delta.proofs.lost.lost_from.Goals.{then-not-is_idle, else-not-is_idle}

pub loop-n-preserved : goal.loop-n-preserved
loop-n-preserved c =
    let links : List Change = c.args.links.now in
    let row : c.cells-row.result.now ≡ row_at c.args.old.now.rows c.args.u.0 = c.cells-row.ensures.cells in
    let here : c.index-links-n.result ≡ change_at links c.loop-n.n = c.index-links-n.is ∙ get_or_default links c.loop-n.n c.index-links-n.result no_change c.loop-n-test.true in
    elim c.if-not-is_idle.branch [
      | then-not-is_idle w ↦
          let there : get_or links c.loop-n.n w.index-links-n-then-not-is_idle.result ≡ change_at links c.loop-n.n = get_or_default links c.loop-n.n w.index-links-n-then-not-is_idle.result no_change c.loop-n-test.true in
          rw w.lost-is (lost-more _ _ _ _ c.loop-n.n c.loop-n.lost w.past.result w.or-lost.result c.loop-n.invariant
          (λ idle. true≢false (sym (w.if-not-is_idle.ensures.1 (subst (λ r. IsIdleChange r c.index-links-n.result) (sym row) (subst (λ (change : Change). IsIdleChange (row_at c.args.old.now.rows c.args.u.0) change) (sym here) idle)))))
          w.past.ensures.within
          (λ v lt. subst (λ (change : Change). (is_in w.past.result v ≡ true) ↔ IsPast c.args.graph.now c.args.old.now.rows c.args.u.0 change.to.0 v) there (w.past.ensures.each v lt))
          w.or-lost.ensures)
      | else-not-is_idle w ↦
          rw w.lost-is (lost-idle _ _ _ _ c.loop-n.n c.loop-n.lost c.loop-n.invariant
          (subst (λ (change : Change). IsIdleChange (row_at c.args.old.now.rows c.args.u.0) change) here (subst (λ r. IsIdleChange r c.index-links-n.result) row (w.if-not-is_idle.ensures.0 refl))))
    ]

pub returns : goal.returns
returns c =
    let end : c.loop-n.n ≡ length c.args.links.now = omega (arith, c.loop-n.auto.n-end, c.loop-n-test.false) in
    lost-over _ _ _ _ c.loop-n.lost c.without.result (subst (λ k. AreLostToFirst c.args.graph.now c.args.old.now.rows c.args.links.now k c.args.u.0 c.loop-n.lost) end c.loop-n.invariant) c.without.ensures
