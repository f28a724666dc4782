-- Where the waypoints of a sound list let walks pass.
use Rattle.std.proofs.Common.{◌≡◌, ◌≢◌, ℕ, ◌+◌, ◌<◌, ◌≤◌, ⊎_elim, Bool, true, false, List, [], ◌∷◌, ◌++◌, refl, arith, sym, subst}
use Rattle.std.proofs.lemmas.List.Elements.{All-head, All-tail}
use Rattle.sr_model.specs.Graph.{Graph, IsGraph, IsLink, carries, has, head, is_overloaded, link_at, link_count, metric, tail}
use Rattle.sr_model.specs.Label.{Net}
use Rattle.sr_model.specs.Repair.{Clear, IsSound, Leads, Path}
use Rattle.sr_model.specs.Space.{Avoids, InP, InQ}
use Rattle.sr_model.specs.Walk.{IsDistance, IsWalk, Passes, cost}
use Rattle.sr_model.specs.declared.repair.Segment.{Segment}
use Rattle.sr_model.specs.declared.repair.Segment.TheVariants.{Adj, Node}
use Rattle.sr_walks.proofs.Walks.{IsWalk-append, cost-append, carries-cases, carries-clear, passes-clear}
use Rattle.sr_walks.proofs.Distances.{IsShortest-from_cost, distance-unique, distance-self}
pub use Rattle.sr_laws.specs.Exact.{Routes}

-- a walk that avoids x is one without x
pub IsWalk-avoiding : (g : Graph) (x : List Bool) (u : ℕ) (p : List ℕ) (v : ℕ) → IsWalk g [] u p v → Avoids x p → IsWalk g x u p v
IsWalk-avoiding g x u [] v a b = a
IsWalk-avoiding g x u (l ∷ p) v a b = (a.0, All-head (λ k. has x k ≡ false) l p b, a.2, IsWalk-avoiding g x (head g l) p v a.3 (All-tail (λ k. has x k ≡ false) l p b), a.4)

-- a walk to a node of P at the distance avoids x
pub space-walk : (g : Graph) (x : List Bool) (u v e : ℕ) → InP g x u v → IsDistance g [] u v e → (p : List ℕ) × IsWalk g x u p v × (cost g p ≡ e)
space-walk g x u v e inside d =
    (d.reached.0, IsWalk-avoiding g x u d.reached.0 v d.reached.1 (inside.avoids d.reached.0 (IsShortest-from_cost g [] u v e d.reached.0 d d.reached.1 d.reached.2)), d.reached.2)

-- from a node beside the end, such a walk may be joined
pub last-walk : (g : Graph) (x : List Bool) (u v e : ℕ) → carries g v u ≡ true → InP g x u v → IsDistance g [] u v e → (p : List ℕ) × IsWalk g x u p v × (cost g p ≡ e) × Passes g u p
last-walk g x u v e carry inside d =
    ⊎_elim
    (λ (same : u ≡ v). ([], same, distance-unique g [] v v 0 e (distance-self g [] v) (rw same at d), tt))
    (λ clear. let r = space-walk g x u v e inside d in (r.0, r.1, r.2, passes-clear g u r.0 clear))
    (carries-cases g v u carry)

pub leads-from_routes : (n : Net) (x : List Bool) (u : ℕ) (ss : List Segment) (w c : ℕ) → Routes n x u ss w c → Leads n x u ss w c
leads-from_routes n x u [] w c a = a
leads-from_routes n x u (Node v ∷ ss) w c a = (a.0, a.1, a.2, a.3, a.4, a.5, a.6, leads-from_routes n x v.0 ss w a.1 a.7, a.8)
leads-from_routes n x u (Adj l ∷ ss) w c a = (a.0, a.1, a.2, a.3, a.4, leads-from_routes n x (head n.graph l.0) ss w a.0 a.5, a.6)

pub clear-from_routes : (n : Net) (x : List Bool) (d u : ℕ) (ss : List Segment) (w c : ℕ) → Routes n x u ss w c → carries n.graph d w ≡ true → Clear n d u ss
clear-from_routes n x d u [] w c a last = rw a.0 last
clear-from_routes n x d u (Node v ∷ ss) w c a last = (carries-clear n.graph d u a.9, clear-from_routes n x d v.0 ss w a.1 a.7 last)
clear-from_routes n x d u (Adj l ∷ ss) w c a last = (carries-clear n.graph d u a.7, clear-from_routes n x d (head n.graph l.0) ss w a.0 a.5 last)

pub last-clear : (n : Net) (x : List Bool) (d u : ℕ) (ss : List Segment) (w c : ℕ) → Leads n x u ss w c → Clear n d u ss → carries n.graph d w ≡ true
last-clear n x d u [] w c a b = rw (← a.0) b
last-clear n x d u (Node v ∷ ss) w c a b = last-clear n x d v.0 ss w a.1 a.7 b.1
last-clear n x d u (Adj l ∷ ss) w c a b = last-clear n x d (head n.graph l.0) ss w a.0 a.5 b.1

-- another node is not at distance 0
pub distance-positive : (g : Graph) (x : List Bool) (u v e : ℕ) → IsGraph g → v ≢ u → IsDistance g x u v e → 0 < e
distance-positive g x u v e graph apart d = at d.reached.0 d.reached.1 d.reached.2 where
  at : (p : List ℕ) → IsWalk g x u p v → cost g p ≡ e → 0 < e
  at [] a c = absurd (apart (sym a))
  at (l ∷ p) a c = let k : IsLink g (link_at g l) = graph.each l a.0 in omega arith

-- in a list at the least cost the destination is no waypoint before the last
not_there : (g : Graph) (x : List Bool) (s d u a c e : ℕ) (p : List ℕ) → carries g d u ≡ true → IsWalk g x s p u → cost g p ≡ a → 0 < c → IsDistance g x s d (a + (c + e)) → is_overloaded g u ≡ false
not_there g x s d u a c e p carry walk paid some whole =
    ⊎_elim
    (λ (same : u ≡ d). let le : a + (c + e) ≤ cost g p = whole.least p (rw same at walk) in absurd (omega arith))
    (λ clear. clear)
    (carries-cases g d u carry)

pub routes-from_leads : (n : Net) (x : List Bool) (s d : ℕ) → IsGraph n.graph → (u a : ℕ) (p : List ℕ) → IsWalk n.graph x s p u → cost n.graph p ≡ a → (ss : List Segment) (w c e : ℕ) → Leads n x u ss w c → Clear n d u ss → IsDistance n.graph x s d (a + (c + e)) → Routes n x u ss w c
routes-from_leads n x s d g u a p walk paid [] w c e leads clear whole = leads
routes-from_leads n x s d g u a p walk paid (Node v ∷ ss) w c e leads clear whole =
    let some : 0 < leads.0 = distance-positive n.graph [] u v.0 leads.0 g leads.4 leads.6 in
    let free : is_overloaded n.graph u ≡ false = not_there n.graph x s d u a c e p clear.0 walk paid (omega (arith, leads.8)) whole in
    let hop = space-walk n.graph x u v.0 leads.0 leads.5 leads.6 in
    let longer : IsWalk n.graph x s (p ++ hop.0) v.0 = IsWalk-append n.graph x s p u hop.0 v.0 walk hop.1 (passes-clear n.graph u hop.0 free) in
    let rest : Routes n x v.0 ss w leads.1 = routes-from_leads n x s d g v.0 (a + leads.0) (p ++ hop.0) longer (omega (arith, cost-append n.graph p hop.0, hop.2)) ss w leads.1 e leads.7 clear.1
    (subst (λ k. IsDistance n.graph x s d k) (omega (arith, leads.8)) whole) in
    (leads.0, leads.1, leads.2, leads.3, leads.4, leads.5, leads.6, rest, leads.8, free)
routes-from_leads n x s d g u a p walk paid (Adj l ∷ ss) w c e leads clear whole =
    let k : IsLink n.graph (link_at n.graph l.0) = g.each l.0 leads.1 in
    let free : is_overloaded n.graph u ≡ false = not_there n.graph x s d u a c e p clear.0 walk paid (omega (arith, leads.6)) whole in
    let begins : tail n.graph l.0 ≡ u = leads.2 in
    let longer : IsWalk n.graph x s (p ++ l.0 ∷ []) (head n.graph l.0) = IsWalk-append n.graph x s p u (l.0 ∷ []) (head n.graph l.0) walk (leads.1, leads.3, begins, refl, tt) free in
    let rest : Routes n x (head n.graph l.0) ss w leads.0 = routes-from_leads n x s d g (head n.graph l.0) (a + metric n.graph l.0) (p ++ l.0 ∷ []) longer (omega (arith, cost-append n.graph p (l.0 ∷ []))) ss w leads.0 e leads.5 clear.1
    (subst (λ k. IsDistance n.graph x s d k) (omega (arith, leads.6)) whole) in
    (leads.0, leads.1, leads.2, leads.3, leads.4, rest, leads.6, free)

-- a sound list, with what its waypoints let pass
pub record IsRouted (n : Net) (x : List Bool) (s d : ℕ) (a : Path) : Type 0 where
  pub within : a.first < link_count n.graph
  pub begins : tail n.graph a.first ≡ s
  pub outside : has x a.first ≡ false
  pub last : ℕ
  pub middle : ℕ
  pub rest : ℕ
  pub leads : Routes n x (head n.graph a.first) a.segments last middle
  pub free : carries n.graph d last ≡ true
  pub ends : InQ n.graph x d last
  pub goes_on : IsDistance n.graph [] last d rest
  pub fits : IsDistance n.graph x s d (metric n.graph a.first + middle + rest)

abbrev pub routed-from_sound : (n : Net) (x : List Bool) (s d : ℕ) (a : Path) → IsGraph n.graph → IsSound n x s d a → IsRouted n x s d a
routed-from_sound n x s d a g i = record {
  within = i.within;
  begins = i.begins;
  outside = i.outside;
  last = i.last;
  middle = i.middle;
  rest = i.rest;
  leads = routes-from_leads n x s d g (head n.graph a.first) (metric n.graph a.first) (a.first ∷ []) (i.within, i.outside, i.begins, refl, tt) (omega arith) a.segments i.last i.middle i.rest i.leads i.clear
      (subst (λ k. IsDistance n.graph x s d k) (omega arith) i.fits);
  free = last-clear n x d (head n.graph a.first) a.segments i.last i.middle i.leads i.clear;
  ends = i.ends;
  goes_on = i.goes_on;
  fits = i.fits;
}

pub sound-from_routed : (n : Net) (x : List Bool) (s d : ℕ) (a : Path) → IsRouted n x s d a → IsSound n x s d a
sound-from_routed n x s d a i = record {
  within = i.within;
  begins = i.begins;
  outside = i.outside;
  last = i.last;
  middle = i.middle;
  rest = i.rest;
  leads = leads-from_routes n x (head n.graph a.first) a.segments i.last i.middle i.leads;
  clear = clear-from_routes n x d (head n.graph a.first) a.segments i.last i.middle i.leads i.free;
  ends = i.ends;
  goes_on = i.goes_on;
  fits = i.fits;
}
