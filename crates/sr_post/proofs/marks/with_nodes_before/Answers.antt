use Rattle.std.proofs.Common.{◌≡◌, ℕ, ◌+◌, ⊎_elim, inl, inr, length, arith, sym, subst}
use Rattle.std.specs.Prelude.{IsTrue, ◌↔◌}
use Rattle.sr_lanes.specs.Bits.{is_in}
use Rattle.sr_lanes.specs.declared.words.NodeBits.{NodeBits}
use Rattle.sr_post.proofs.MarkLemmas.{IsFoundBy, before-all, before-put, before-pass}
use Rattle.sr_post.proofs.marks.with_nodes_before.Goals.{then-leads_along, else-leads_along}
use Rattle.sr_post.proofs.marks.with_nodes_before.Goals as goal

pub loop-i-preserved : goal.loop-i-preserved
loop-i-preserved c =
    let g = c.args.graph.now in
    let links = c.links_to-links.result.now in
    let P : NodeBits → Type 0 = λ b. (u : ℕ) → IsTrue (is_in b u) ↔ IsFoundBy g c.args.source.0 c.args.cells.now links c.args.found (c.loop-i.i + 1) u in
    elim c.if-leads_along.branch [
      | then-leads_along w ↦
          subst P (sym w.set-is)
          (before-put g c.args.source.0 c.args.cells.now links c.args.found c.loop-i.i c.loop-i.set c.loop-i.invariant w.with-set.result w.edge.result.from.0 w.edge.ensures.from w.with-set.ensures
          (c.leads_along.ensures.0 w.if-leads_along.true).1)
      | else-leads_along w ↦
          subst P (sym w.set-is)
          (before-pass g c.args.source.0 c.args.cells.now links c.args.found c.loop-i.i c.loop-i.set c.loop-i.invariant
          (λ out along. absurd (let this = c.leads_along.ensures.1 (out, along) in let not = w.if-leads_along.false in cc)))
    ]

pub returns : goal.returns
returns c = λ u.
    let links = c.links_to-links.result.now in
    let over : c.loop-i.i ≡ length links = omega arith in
    let told : IsTrue (is_in c.loop-i.set u) ↔ IsFoundBy c.args.graph.now c.args.source.0 c.args.cells.now links c.args.found (length links) u =
    subst (λ m. IsTrue (is_in c.loop-i.set u) ↔ IsFoundBy c.args.graph.now c.args.source.0 c.args.cells.now links c.args.found m u) over (c.loop-i.invariant u) in
    let all = before-all c.args.graph.now c.args.source.0 c.args.cells.now c.args.v.0 links u c.links_to-links.ensures.links in (
      λ yes. ⊎_elim (λ is. inl is) (λ b. inr (all.0 b)) (told.0 yes),
      λ given. told.1 (⊎_elim (λ is. inl is) (λ b. inr (all.1 b)) given),
    )
