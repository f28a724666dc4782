-- Where each link has a label, a sound list leads to each node to which a walk leads: the links of a shortest walk.
use Rattle.std.proofs.Common.{◌≡◌, ◌≢◌, ℕ, ◌+◌, ◌<◌, ◌≤◌, Bool, true, false, List, [], ◌∷◌, refl, arith, subst}
use Rattle.std.specs.Prelude.{is_some}
use Rattle.std.proofs.lemmas.List.Elements.{All-nil}
use Rattle.sr_model.specs.declared.repair.Segment.{Segment}
use Rattle.sr_model.specs.declared.repair.Segment.TheVariants.{Adj}
use Rattle.sr_model.specs.Graph.{Graph, IsGraph, IsLink, has, head, link_at, link_count, metric}
use Rattle.sr_model.specs.Label.{Net, adj_at}
use Rattle.sr_model.specs.Repair.{Path, IsSound}
use Rattle.sr_model.specs.Space.{Avoids, InP}
use Rattle.sr_model.specs.Walk.{IsDistance, IsShortest, IsWalk, Passes, cost}
use Rattle.sr_walks.proofs.Walks.{carries-same}
use Rattle.sr_walks.proofs.Distances.{distance-self}
use Rattle.sr_laws.specs.Exact.{Routes}
use Rattle.sr_laws.proofs.Waypoints.{sound-from_routed}

-- each link has a label
abbrev pub AllLabelled : Net → Type 0
AllLabelled n = (l : ℕ) → l < link_count n.graph → is_some (adj_at n l) ≡ true

-- an adjacency segment for each link
abbrev crossing : List ℕ → List Segment
crossing [] = []
crossing (l ∷ p) = Adj (record { 0 = l }) ∷ crossing p

routes_crossing : (n : Net) → AllLabelled n → (x : List Bool) (u : ℕ) (p : List ℕ) (v : ℕ) → IsWalk n.graph x u p v → Passes n.graph u p → Routes n x u (crossing p) v (cost n.graph p)
routes_crossing n all x u [] v a b = (a, refl)
routes_crossing n all x u (l ∷ p) v a b =
    (cost n.graph p, a.0, a.2, a.1, all l a.0, routes_crossing n all x (head n.graph l) p v a.3 a.4, refl, b)

-- the shortest walk from a node to itself is the empty one
self_avoids : (g : Graph) → IsGraph g → (x : List Bool) (d : ℕ) (p : List ℕ) → IsShortest g [] d p d → Avoids x p
self_avoids g graph x d [] s = All-nil (λ l. has x l ≡ false)
self_avoids g graph x d (l ∷ p) s =
    let k : IsLink g (link_at g l) = graph.each l s.0.0 in
    let le : metric g l + cost g p ≤ 0 = s.1 [] refl in
    absurd (omega arith)

-- so each node is in P of itself
pub space-self : (g : Graph) → IsGraph g → (x : List Bool) (d : ℕ) → InP g x d d
space-self g graph x d = record { reached = ([], refl); avoids = self_avoids g graph x d }

list_along : (n : Net) → IsGraph n.graph → AllLabelled n → (x : List Bool) (s d c : ℕ) → s ≢ d → IsDistance n.graph x s d c → (p : List ℕ) → IsWalk n.graph x s p d → cost n.graph p ≡ c → (a : Path) × IsSound n x s d a
list_along n graph all x s d c apart whole [] a e = absurd (apart a)
list_along n graph all x s d c apart whole (l ∷ p) a e =
    let list : Path = record { first = l; segments = crossing p } in (
      list,
      sound-from_routed n x s d list (record {
        within = a.0;
        begins = a.2;
        outside = a.1;
        last = d;
        middle = cost n.graph p;
        rest = 0;
        leads = routes_crossing n all x (head n.graph l) p d a.3 a.4;
        free = carries-same n.graph d d refl;
        ends = space-self n.graph graph x d;
        goes_on = distance-self n.graph [] d;
        fits = subst (λ k. IsDistance n.graph x s d k) (omega arith) whole;
      }),
    )

-- a sound list leads to each other node at a distance
pub labelled-covers : (n : Net) → IsGraph n.graph → AllLabelled n → (x : List Bool) (s d c : ℕ) → s ≢ d → IsDistance n.graph x s d c → (a : Path) × IsSound n x s d a
labelled-covers n graph all x s d c apart whole =
    list_along n graph all x s d c apart whole whole.reached.0 whole.reached.1 whole.reached.2
