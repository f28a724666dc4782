-- Links that lead along the distances without the links that fail: of these links none fails but from the source.
use Rattle.std.proofs.Common.{◌≡◌, ◌≢◌, ℕ, ◌<◌, ◌+◌, ⊎_elim, inr, Bool, true, false, List, [], ◌∷◌, arith, ap, sym, ◌∙◌, subst}
use Rattle.std.specs.Prelude.{slice_index}
use Rattle.std.proofs.lemmas.Bool.{cases_Bool, true≢false}
use Rattle.sr_model.specs.declared.case.Case.{Case}
use Rattle.sr_model.specs.declared.link.TheConstants.{FAR}
use Rattle.sr_model.specs.Graph.{Graph, IsGraph, IsLink, IsNamed, has, head, link_at, link_count, metric, node_count, tail}
use Rattle.sr_model.specs.Walk.{IsDistance, IsRow, IsWalk}
use Rattle.sr_model.specs.Case.{IsCase, IsFailedSet, Touches, source_of}
use Rattle.sr_walks.proofs.Distances.{cell-distance, distance-self}
use Rattle.sr_laws.specs.Steady.{pivot_of}
use Rattle.sr_laws.proofs.Pivots.{lie-at_pivot, pivot-known}

-- a walk without the failed links, among which all are that touch its end, ends where it begins
blocked : (g : Graph) (x : List Bool) (t : ℕ) → ((l : ℕ) → l < link_count g → Touches g l t → has x l ≡ true) → (u : ℕ) (p : List ℕ) → IsWalk g x u p t → u ≡ t
blocked g x t all u [] a = a
blocked g x t all u (l ∷ p) a =
    let ends : head g l ≡ t = blocked g x t all (head g l) p a.3 in
    let failed : has x l ≡ true = all l a.0 (inr ends) in
    absurd (true≢false (sym failed ∙ a.1))

module _ (g : Graph) (case : Case) (x : List Bool) (cells : List ℕ) (graph : IsGraph g) (named : IsNamed g) (is : IsCase g case) (set : IsFailedSet g case x) (row : IsRow g x (source_of g case) cells) where
  source_within : source_of g case < node_count g
  source_within = let k : IsLink g (link_at g case.link.0) = graph.each case.link.0 is in k.0

  -- to the source it is no distance
  pub source-zero : slice_index cells (source_of g case) ≡ 0
  source-zero = cell-distance g x (source_of g case) (source_of g case) (slice_index cells (source_of g case)) 0 (row.each (source_of g case) source_within) (distance-self g x (source_of g case)) (omega arith)

  -- the node at which the failed links lie is the source, where it is reached
  at_source : slice_index cells (pivot_of g case) < FAR → pivot_of g case < node_count g → pivot_of g case ≡ source_of g case
  at_source near within = ⊎_elim
      (λ own. own)
      (λ all.
      let d : IsDistance g x (source_of g case) (pivot_of g case) (slice_index cells (pivot_of g case)) = (row.each (pivot_of g case) within).near near in
      sym (blocked g x (pivot_of g case) all (source_of g case) d.reached.0 d.reached.1))
      (pivot-known g case x set)

  -- a link that leads along the row to a node that is reached, and doesn't begin at the source, doesn't fail
  pub along-outside : (l : ℕ) → l < link_count g → tail g l ≢ source_of g case → slice_index cells (tail g l) + metric g l ≡ slice_index cells (head g l) → slice_index cells (head g l) < FAR → has x l ≡ false
  along-outside l within elsewhere tight near = ⊎_elim
      (λ (yes : has x l ≡ true).
      let ends : IsLink g (link_at g l) = graph.each l within in
      ⊎_elim
      (λ (begins : tail g l ≡ pivot_of g case).
      absurd (elsewhere (begins ∙ at_source (subst (λ k. slice_index cells k < FAR) begins (omega (arith, tight, near))) (subst (λ k. k < node_count g) begins ends.0))))
      (λ (to : head g l ≡ pivot_of g case).
      let here : head g l ≡ source_of g case = to ∙ at_source (subst (λ k. slice_index cells k < FAR) to near) (subst (λ k. k < node_count g) to ends.1) in
      let zero_there : slice_index cells (head g l) ≡ 0 = ap (λ k. slice_index cells k) here ∙ source-zero in
      absurd (omega (arith, tight, zero_there, ends.2)))
      (lie-at_pivot g graph named case x is set l within yes))
      (λ no. no)
      (cases_Bool (has x l))
