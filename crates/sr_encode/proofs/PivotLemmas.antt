-- P of a waypoint, told by the node at which the failed links lie where the distances add up.
use Rattle.std.proofs.Common.{◌≡◌, ◌≢◌, ℕ, ◌+◌, ◌<◌, ◌≤◌, ◌↔◌, ◌&&◌, ⊎_elim, Bool, true, false, List, [], ◌∷◌, ◌++◌, IsTrue, arith, ap, subst, sym, ◌∙◌}
use Rattle.std.specs.Prelude.{not, slice_index}
use Rattle.std.proofs.lemmas.Bool.{and_parts, and_from, not-true, false_from_ne_true, true≢false, cases_lt}
use Rattle.std.proofs.lemmas.List.Elements.{All-tail}
use Rattle.sr_model.specs.declared.link.TheConstants.{FAR}
use Rattle.sr_model.specs.declared.case.Case.{Case}
use Rattle.sr_model.specs.Graph.{Graph, IsGraph, IsNamed, IsLink, has, link_at, link_count, node_count}
use Rattle.sr_model.specs.Case.{IsCase, IsFailedSet, Touches, source_of}
use Rattle.sr_model.specs.Space.{Avoids, InP}
use Rattle.sr_model.specs.Walk.{IsDistance, IsOnWay, IsRow, IsWalk, cost}
use Rattle.sr_walks.proofs.Walks.{cost-append}
use Rattle.sr_walks.proofs.Distances.{InP-from_none, none-from_InP}
use Rattle.sr_laws.specs.Steady.{pivot_of}
use Rattle.sr_laws.proofs.Pivots.{lie-at_pivot, pivot-known, pivot-within}
use Rattle.sr_laws.proofs.Waypoints.{IsWalk-avoiding, distance-positive}
use Rattle.sr_lanes.specs.declared.words.NodeBits.{NodeBits}
use Rattle.sr_lanes.specs.Bits.{is_in}
use Rattle.sr_spaces.specs.Failure.{HasWalk}
use Rattle.sr_spaces.proofs.SpaceLemmas.{OnShortest-within}
use Rattle.sr_spaces.proofs.AroundLemmas.{touching, way-from_touching}
use Rattle.sr_encode.specs.Aftermath.{Aftermath, IsAftermath, IsPivot, AddsUp, AllAddUp}

-- the end of a walk that avoids x is a walk without x
rest-avoiding : (g : Graph) (x : List Bool) (u : ℕ) (p q : List ℕ) (v : ℕ) → IsWalk g [] u q v → Avoids x (p ++ q) → IsWalk g x u q v
rest-avoiding g x u [] q v a free = IsWalk-avoiding g x u q v a free
rest-avoiding g x u (l ∷ p) q v a free = rest-avoiding g x u p q v a (All-tail (λ k. has x k ≡ false) l (p ++ q) free)

-- the cost of another node than the source is above 0
some-cost : (g : Graph) (x : List Bool) (s : ℕ) (post : List ℕ) (w : ℕ) → IsGraph g → IsRow g x s post → w < node_count g → w ≢ s → 0 < slice_index post w
some-cost g x s post w graph row within apart = ⊎_elim
    (λ (near : slice_index post w < FAR). distance-positive g x s w (slice_index post w) graph apart ((row.each w within).near near))
    (λ (far : FAR ≤ slice_index post w). omega arith)
    (cases_lt (slice_index post w) FAR)

-- the row from s without the failed links, the node t at which they lie, and node w, by which the distances add up at v
module _ (g : Graph) (x : List Bool) (s t : ℕ) (post : List ℕ) (graph : IsGraph g) (row : IsRow g x s post) (pivot : IsPivot g x s t) (w v e : ℕ) (w_in : w < node_count g) (v_in : v < node_count g) (d : IsDistance g [] w v e) (sum : slice_index post w + e ≡ slice_index post v) (apart : w ≢ t) where
  -- where t is s, what goes on from there to v without failed links costs more than what a shortest walk from w has left
  way-source : t ≡ s → IsOnWay g [] w v t → InP g x w v → ⊥
  way-source own way inside =
      let from : IsWalk g x s way.after v = subst (λ k. IsWalk g x k way.after v) own (rest-avoiding g x t way.before way.after v way.from (inside.avoids (way.before ++ way.after) way.shortest)) in
      let le : slice_index post v ≤ cost g way.after = ⊎_elim
      (λ (near : slice_index post v < FAR). ((row.each v v_in).near near).least way.after from)
      (λ (far : FAR ≤ slice_index post v). absurd ((row.each v v_in).far far way.after from))
      (cases_lt (slice_index post v) FAR) in
      let most : cost g (way.before ++ way.after) ≤ cost g d.reached.0 = way.shortest.1 d.reached.0 d.reached.1 in
      let some : 0 < slice_index post w = some-cost g x s post w graph row w_in (λ same. apart (same ∙ sym own)) in
      absurd (omega (arith, le, most, some, d.reached.2, sum, cost-append g way.before way.after))

  -- where all links fail that touch t, a shortest walk from w that reaches t holds one of them
  way-failed : ((l : ℕ) → l < link_count g → Touches g l t → has x l ≡ true) → IsOnWay g [] w v t → InP g x w v → ⊥
  way-failed all way inside =
      let l = touching g w v t (λ begins. absurd (apart begins)) way.before way.after way.to way.from way.shortest in
      none-from_InP g x w v l.0 inside (all l.0 (OnShortest-within g [] w v l.0 l.2) l.1) l.2

  -- v is in P of w just where no shortest walk from w to v reaches t
  pub p-by_pivot : InP g x w v ↔ (IsOnWay g [] w v t → ⊥)
  p-by_pivot = (
    λ inside way. ⊎_elim (λ own. way-source own way inside) (λ all. way-failed all way inside) pivot.known,
    λ none. InP-from_none g x w v d.reached.0 d.reached.1 (λ l within is on. none (way-from_touching g w v t l (pivot.lie l within is) on)),
  )

-- what a failure leaves, the node t at which the failed links lie, and node w, which is neither the source nor t
module _ (after : Aftermath) (t w : ℕ) (is : IsAftermath after) (pivot : IsPivot after.net.graph after.failed after.source t) (within : w < node_count after.net.graph) (other : w ≢ after.source) (apart : w ≢ t) where
  -- w reaches the nodes at which the distances by it add up
  adds-near : (v : ℕ) → v < node_count after.net.graph → AddsUp after w v → (e : ℕ) × IsDistance after.net.graph [] w v e × (slice_index after.post w + e ≡ slice_index after.post v)
  adds-near v v_in sum =
      let some : 0 < slice_index after.post w = some-cost after.net.graph after.failed after.source after.post w is.graph is.row within other in
      let top : slice_index after.post v ≤ FAR = (is.row.each v v_in).top in
      (slice_index sum.0 v, (sum.1.each v v_in).near (omega (arith, sum.2)), sum.2)

  pub adds-walk : (v : ℕ) → v < node_count after.net.graph → AddsUp after w v → HasWalk after.net.graph w v
  adds-walk v v_in sum = let near = adds-near v v_in sum in (near.1.reached.0, near.1.reached.1)

  -- P of w among them is told by t
  pub adds-p : (v : ℕ) → v < node_count after.net.graph → AddsUp after w v → InP after.net.graph after.failed w v ↔ (IsOnWay after.net.graph [] w v t → ⊥)
  adds-p v v_in sum =
      let near = adds-near v v_in sum in
      p-by_pivot after.net.graph after.failed after.source t after.post is.graph is.row pivot w v near.0 within v_in near.1 near.2 apart

  -- also of a whole set of them
  pub those-told : (tight reaching those : NodeBits) → AllAddUp after w tight
      → ((v : ℕ) → IsTrue (is_in reaching v) ↔ ((is_in tight v ≡ true) × IsOnWay after.net.graph [] w v t))
      → ((v : ℕ) → is_in those v ≡ (is_in tight v && not (is_in reaching v)))
      → (v : ℕ) → IsTrue (is_in those v) ↔ ((is_in tight v ≡ true) × InP after.net.graph after.failed w v)
  those-told tight reaching those sums way these v = (
    λ yes.
        let both = and_parts (is_in tight v) (not (is_in reaching v)) (sym (these v) ∙ yes) in
        let at = sums v both.0 in
        (both.0, (adds-p v at.0 at.1).1 (λ on. true≢false (sym ((way v).1 (both.0, on)) ∙ not-true (is_in reaching v) both.1))),
    λ both.
        let at = sums v both.0 in
        let none : is_in reaching v ≡ false = false_from_ne_true (is_in reaching v) (λ yes. (adds-p v at.0 at.1).0 both.1 ((way v).0 yes).1) in
        these v ∙ and_from (is_in tight v) (not (is_in reaching v)) both.0 (ap not none),
  )

-- where the failed links of a case lie
pub case-pivot : (g : Graph) → IsGraph g → IsNamed g → (case : Case) (x : List Bool) → IsCase g case → IsFailedSet g case x → IsPivot g x (source_of g case) (pivot_of g case)
case-pivot g graph named case x within set =
    let ends : IsLink g (link_at g case.link.0) = graph.each case.link.0 within in
    record {
      within = pivot-within g case.kind case.link.0 ends.0 ends.1;
      lie = lie-at_pivot g graph named case x within set;
      known = pivot-known g case x set;
    }
