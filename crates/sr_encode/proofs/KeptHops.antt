-- A destination that keeps a next hop: the least sound list to it is that hop alone.
use Rattle.std.proofs.Common.{◌≡◌, ℕ, ◌+◌, ◌<◌, ◌≤◌, ⊎_elim, inl, inr, Bool, List, [], ◌∷◌, length, refl, arith, ap, sym, subst, Some}
use Rattle.std.proofs.lemmas.Bool.{cases_eq}
use Rattle.sr_model.specs.declared.repair.Segment.{Segment}
use Rattle.sr_model.specs.Graph.{head, metric}
use Rattle.sr_model.specs.Label.{Net}
use Rattle.sr_model.specs.Walk.{IsDistance, IsShortest, IsWalk, cost}
use Rattle.sr_model.specs.Space.{InP}
use Rattle.sr_model.specs.Repair.{Path, IsSound, IsLeast, PathLe}
use Rattle.sr_walks.proofs.Walks.{IsWalk-any, passes-carries}
use Rattle.sr_walks.proofs.Distances.{distance-from_shortest, distance-unique, shortest-cut, walk-out, IsShortest-from_cost}
use Rattle.sr_laws.proofs.Waypoints.{IsWalk-avoiding}
use Rattle.sr_post.specs.Kept.{LeadsTo, IsKeptHop}
use Rattle.sr_encode.specs.declared.waypoint.Waypoint.{Waypoint}
use Rattle.sr_encode.specs.Waypoints.{path_to, segments_to, waypoint_at}
use Rattle.sr_encode.specs.Serve.{IsServedBy}

module _ (n : Net) (x : List Bool) (s d : ℕ) where
  -- the first link alone
  abbrev pub alone : ℕ → Path
  alone l = record { first = l; segments = [] }

  -- a link that leads to d in spite of x
  module _ (l : ℕ) (leads : LeadsTo n.graph x s d l) where
    -- the walk goes on from its end
    on : IsShortest n.graph [] (head n.graph l) leads.hop.more d
    on =
        let cut = shortest-cut n.graph [] s (l ∷ []) leads.hop.more d leads.hop.shortest in
        subst (λ u. IsShortest n.graph [] u leads.hop.more d) (sym cut.1.0.3) cut.2

    -- it begins a shortest walk without x too
    pub distance-stays : IsDistance n.graph x s d (metric n.graph l + cost n.graph leads.hop.more)
    distance-stays =
        let whole : IsWalk n.graph [] s (l ∷ leads.hop.more) d = leads.hop.shortest.0 in
        let rest : IsWalk n.graph x (head n.graph l) leads.hop.more d = IsWalk-avoiding n.graph x (head n.graph l) leads.hop.more d on.0 (leads.space.avoids leads.hop.more on) in
        record {
          reached = (l ∷ leads.hop.more, (whole.0, leads.outside, whole.2, rest, whole.4), refl);
          least = λ p walk. leads.hop.shortest.1 p (IsWalk-any n.graph x s p d walk);
        }

    -- alone it is a sound list
    pub sound-from_leads : IsSound n x s d (alone l)
    sound-from_leads =
        let whole : IsWalk n.graph [] s (l ∷ leads.hop.more) d = leads.hop.shortest.0 in
        record {
          within = whole.0;
          begins = whole.2;
          outside = leads.outside;
          last = head n.graph l;
          middle = 0;
          rest = cost n.graph leads.hop.more;
          leads = (refl, refl);
          clear = passes-carries n.graph [] (head n.graph l) leads.hop.more d whole.3 whole.4;
          ends = leads.space;
          goes_on = distance-from_shortest n.graph [] (head n.graph l) d leads.hop.more on;
          fits = subst (λ c. IsDistance n.graph x s d c) (omega arith) distance-stays;
        }

  -- where a link leads to d, so does each that is a sound list alone
  pub leads-from_sound : (k : ℕ) → LeadsTo n.graph x s d k → (l : ℕ) → IsSound n x s d (alone l) → LeadsTo n.graph x s d l
  leads-from_sound k kept l a =
      let same : head n.graph l ≡ a.last = a.leads.0 in
      let rest : IsDistance n.graph [] (head n.graph l) d a.rest = subst (λ u. IsDistance n.graph [] u d a.rest) (sym same) a.goes_on in
      let out = walk-out n.graph [] (head n.graph l) d a.rest a.clear rest in
      let walk : IsWalk n.graph [] s (l ∷ out.0) d = (a.within, refl, a.begins, out.1, out.3) in
      let stays : metric n.graph l + a.middle + a.rest ≡ metric n.graph k + cost n.graph kept.hop.more = distance-unique n.graph x s d _ _ a.fits (distance-stays k kept) in
      let before : IsDistance n.graph [] s d (metric n.graph k + cost n.graph kept.hop.more) = distance-from_shortest n.graph [] s d (k ∷ kept.hop.more) kept.hop.shortest in
      record {
        outside = a.outside;
        hop = record { more = out.0; shortest = IsShortest-from_cost n.graph [] s d _ (l ∷ out.0) before walk (omega (arith, out.2, stays, a.leads.1)) };
        space = subst (λ u. InP n.graph x u d) (sym same) a.ends;
      }

  -- the least link that leads to d is no later than any sound list
  no-later : (l : ℕ) → IsKeptHop n.graph x s d l → (k : ℕ) (ss : List Segment) → IsSound n x s d (record { first = k; segments = ss }) → PathLe (alone l) (record { first = k; segments = ss })
  no-later l hop k [] a =
      let least : l ≤ k = hop.least k (leads-from_sound l hop.leads k a) in
      ⊎_elim
      (λ (same : l ≡ k). inr (ap (λ j. alone j) same))
      (λ ne. inl (inr (refl, inl (omega arith))))
      (cases_eq l k)
  no-later l hop k (t ∷ ss) a = inl (inl (omega arith))

  -- it is the least sound list
  pub least-from_hop : (l : ℕ) → IsKeptHop n.graph x s d l → IsLeast n x s d (record { first = l; segments = [] })
  least-from_hop l hop = record {
    sound = sound-from_leads l hop.leads;
    least = λ b a. no-later l hop b.first b.segments a;
  }

  -- so the waypoint to which it leads alone serves d
  pub served-by_hop : (queue : List Waypoint) (k l : ℕ) → k < length queue → (waypoint_at queue k).first.0 ≡ l → (waypoint_at queue k).depth ≡ 0 → IsKeptHop n.graph x s d l → IsServedBy n x s queue d (Some k)
  served-by_hop queue k l within first depth hop =
      let least : IsLeast n x s d (record { first = (waypoint_at queue k).first.0; segments = [] }) = subst (λ f. IsLeast n x s d (record { first = f; segments = [] })) (sym first) (least-from_hop l hop) in
      let there : IsLeast n x s d (path_to queue k) = subst (λ m. IsLeast n x s d (record { first = (waypoint_at queue k).first.0; segments = segments_to queue m k })) (sym depth) least in
      λ j same.
      let is : k ≡ j = cc in
      subst (λ i. (i < length queue) × IsLeast n x s d (path_to queue i)) is (within, there)
