-- Ways along a row of distances.
use Rattle.std.proofs.Common.{◌≡◌, ℕ, ◌+◌, ◌<◌, ◌≤◌, ◌⊎◌, ⊎_elim, inl, inr, Bool, true, false, List, [], ◌∷◌, ◌++◌, refl, arith, ap, subst}
use Rattle.std.specs.Prelude.{slice_index}
use Rattle.std.proofs.lemmas.Bool.{cases_lt}
use Rattle.sr_model.specs.Graph.{Graph, IsGraph, IsLink, carries, has, head, link_at, link_count, metric, node_count, tail}
use Rattle.sr_model.specs.Walk.{IsDistance, IsRow, IsWalk, IsOnWay, Passes, cost}
use Rattle.sr_model.specs.declared.link.TheConstants.{FAR}
use Rattle.sr_walks.proofs.Walks.{IsWalk-append, IsWalk-cut, walk-end, walk-within, cost-append, carries-cases, Begins, begins-self, begins-passes, stable-cost}
use Rattle.sr_walks.proofs.Distances.{distance-unique, distance-self, cell-distance, walk-into, IsShortest-from_cost, distance-from_shortest}
use Rattle.sr_walks.proofs.Rows.{row-near, row-stable}

-- from v a walk leads to d along the row: what it costs is what the cells differ
pub record IsAlong (g : Graph) (x : List Bool) (s : ℕ) (cells : List ℕ) (v d : ℕ) : Type 0 where
  pub walk : List ℕ
  pub to : IsWalk g x v walk d
  pub begins : Begins g s v walk
  pub near : slice_index cells v < FAR
  pub sum : slice_index cells v + cost g walk ≡ slice_index cells d

-- a link from v leads along the row, and a walk from its end on to d
pub record BeginsAlong (g : Graph) (x : List Bool) (s : ℕ) (cells : List ℕ) (v d : ℕ) : Type 0 where
  pub link : ℕ
  pub within : link < link_count g
  pub outside : has x link ≡ false
  pub from : tail g link ≡ v
  pub carry : carries g s v ≡ true
  pub tight : slice_index cells v + metric g link ≡ slice_index cells (head g link)
  pub more : IsAlong g x s cells (head g link) d

module _ (g : Graph) (x : List Bool) (s : ℕ) (cells : List ℕ) (graph : IsGraph g) (row : IsRow g x s cells) (inside : s < node_count g) where
  own : slice_index cells s ≡ 0
  own = cell-distance g x s s (slice_index cells s) 0 (row.each s inside) (distance-self g x s) (omega arith)

  pub near_walk : (p : List ℕ) (v : ℕ) → v < node_count g → IsWalk g x s p v → slice_index cells v < FAR
  near_walk p v within a = ⊎_elim (λ near. near) (λ far. absurd ((row.each v within).far far p a)) (cases_lt (slice_index cells v) FAR)

  -- a node on a shortest walk has its rest along the row
  pub along-from_way : (d v : ℕ) → IsOnWay g x s d v → IsAlong g x s cells v d
  along-from_way d v w =
      let v_in : v < node_count g = walk-within g x s w.before v graph inside w.to in
      let d_in : d < node_count g = walk-within g x v w.after d graph v_in w.from in
      let v_near : slice_index cells v < FAR = near_walk w.before v v_in w.to in
      let d_near : slice_index cells d < FAR = near_walk (w.before ++ w.after) d d_in w.shortest.0 in
      let whole : slice_index cells d ≡ cost g (w.before ++ w.after) = distance-unique g x s d _ _ ((row.each d d_in).near d_near) (distance-from_shortest g x s d (w.before ++ w.after) w.shortest) in
      let first : slice_index cells v ≤ cost g w.before = ((row.each v v_in).near v_near).least w.before w.to in
      let r : (k : ℕ) × IsWalk g x s w.before k × IsWalk g x k w.after d × ((w.before ≡ []) ⊎ Passes g k w.after) = IsWalk-cut g x s w.before w.after d w.shortest.0 in
      let same : r.0 ≡ v = walk-end g x s w.before r.0 v r.1 w.to in
      let begins : Begins g s v w.after =
      ⊎_elim
      (λ e. let here : s ≡ v = subst (λ k. IsWalk g x s k v) e w.to in subst (λ k. Begins g s k w.after) here (begins-self g s w.after))
      (λ pass. begins-passes g s v w.after (subst (λ k. Passes g k w.after) same pass))
      r.3 in
      let most : slice_index cells d ≤ slice_index cells v + cost g w.after = stable-cost g x s cells (row-stable g x s cells graph row) v w.after d w.from begins in
      record { walk = w.after; to = w.from; begins = begins; near = v_near; sum = omega (arith, cost-append g w.before w.after) }

  -- a way to v that the walk may go on
  join_at : (v : ℕ) → v < node_count g → (q : List ℕ) (d : ℕ) → IsWalk g x v q d → Begins g s v q → slice_index cells v < FAR → (p : List ℕ) × IsWalk g x s p v × (cost g p ≡ slice_index cells v) × IsWalk g x s (p ++ q) d
  join_at v within [] d a b near =
      let e : IsDistance g x s v (slice_index cells v) = (row.each v within).near near in
      (e.reached.0, e.reached.1, e.reached.2, IsWalk-append g x s e.reached.0 v [] d e.reached.1 a tt)
  join_at v within (l ∷ q) d a b near =
      let e : IsDistance g x s v (slice_index cells v) = (row.each v within).near near in
      let r = walk-into g x s v (slice_index cells v) b e in
      (r.0, r.1, r.2, r.3 (l ∷ q) d a)

  pub way-from_along : (d v : ℕ) → v < node_count g → IsAlong g x s cells v d → IsOnWay g x s d v
  way-from_along d v within k =
      let d_in : d < node_count g = walk-within g x v k.walk d graph within k.to in
      let r : (p : List ℕ) × IsWalk g x s p v × (cost g p ≡ slice_index cells v) × IsWalk g x s (p ++ k.walk) d = join_at v within k.walk d k.to k.begins k.near in
      let d_near : slice_index cells d < FAR = near_walk (r.0 ++ k.walk) d d_in r.3 in
      record {
        before = r.0;
        after = k.walk;
        to = r.1;
        from = k.to;
        shortest = IsShortest-from_cost g x s d (slice_index cells d) (r.0 ++ k.walk) ((row.each d d_in).near d_near) r.3 (omega (arith, cost-append g r.0 k.walk, r.2, k.sum));
      }

  -- a node with a walk is along the row to itself
  pub along-here : (v : ℕ) → slice_index cells v < FAR → IsAlong g x s cells v v
  along-here v near = record { walk = []; to = refl; begins = tt; near = near; sum = omega arith }

  on_passes : (v : ℕ) (q : List ℕ) → 0 < slice_index cells v → Begins g s v q → Passes g v q
  on_passes v [] above b = tt
  on_passes v (l ∷ q) above b = ⊎_elim (λ (e : v ≡ s). absurd (omega (arith, own, ap (λ k. slice_index cells k) e))) (λ clear. clear) (carries-cases g s v b)

  -- by a link along the row
  pub along-on : (l d : ℕ) → l < link_count g → has x l ≡ false → carries g s (tail g l) ≡ true → slice_index cells (tail g l) < FAR → slice_index cells (tail g l) + metric g l ≡ slice_index cells (head g l) → IsAlong g x s cells (head g l) d → IsAlong g x s cells (tail g l) d
  along-on l d within outside carry near tight k =
      let ends : IsLink g (link_at g l) = graph.each l within in
      let above : 0 < slice_index cells (head g l) = omega (arith, ends.2) in
      record { walk = l ∷ k.walk; to = (within, outside, refl, k.to, on_passes (head g l) k.walk above k.begins); begins = carry; near = near; sum = omega (arith, k.sum) }

  cut_at : (v d : ℕ) (q : List ℕ) → IsWalk g x v q d → Begins g s v q → slice_index cells v < FAR → slice_index cells v + cost g q ≡ slice_index cells d → (v ≡ d) ⊎ BeginsAlong g x s cells v d
  cut_at v d [] a b near sum = inl a
  cut_at v d (l ∷ q) a b near sum =
      let same : slice_index cells (tail g l) ≡ slice_index cells v = ap (λ k. slice_index cells k) a.2 in
      let step : (slice_index cells (head g l) < FAR) × (slice_index cells (head g l) ≤ slice_index cells (tail g l) + metric g l) = row-near g x s cells graph row l a.0 a.1 (rw a.2 b) (omega arith) in
      let on : Begins g s (head g l) q = begins-passes g s (head g l) q a.4 in
      let rest : slice_index cells d ≤ slice_index cells (head g l) + cost g q = stable-cost g x s cells (row-stable g x s cells graph row) (head g l) q d a.3 on in
      inr (record { link = l; within = a.0; outside = a.1; from = a.2; carry = b; tight = omega arith; more = record { walk = q; to = a.3; begins = on; near = step.0; sum = omega arith } })

  -- a way along the row ends here, or begins with a link along the row
  pub along-cut : (v d : ℕ) → IsAlong g x s cells v d → (v ≡ d) ⊎ BeginsAlong g x s cells v d
  along-cut v d k = cut_at v d k.walk k.to k.begins k.near k.sum
