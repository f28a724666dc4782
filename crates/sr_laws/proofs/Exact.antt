-- Lists that lead to a waypoint by a shortest walk without the failed links, and the least of them.
use Rattle.std.proofs.Common.{◌≡◌, ℕ, ◌+◌, ◌≤◌, ◌⊎◌, ⊎_elim, inl, inr, Bool, true, List, [], ◌∷◌, ◌++◌, length, refl, arith, ap, sym, subst}
use Rattle.std.proofs.Common.{zero, suc, Option}
use Rattle.std.proofs.lemmas.List.{length-append}
use Rattle.sr_model.specs.Graph.{Graph, IsGraph, carries, head, metric}
use Rattle.sr_model.specs.Label.{Net}
use Rattle.sr_model.specs.Repair.{IsLeast, IsSound, Path, PathLe}
use Rattle.sr_model.specs.Space.{InQ}
use Rattle.sr_model.specs.Walk.{IsDistance, IsWalk, Passes, cost}
use Rattle.sr_model.specs.declared.repair.Segment.{Segment}
use Rattle.sr_model.specs.declared.repair.Segment.TheVariants.{Adj, Node}
use Rattle.sr_walks.proofs.Walks.{IsWalk-append, cost-append, passes-clear}
use Rattle.sr_walks.proofs.Distances.{distance-unique}
use Rattle.sr_laws.proofs.Waypoints.{Routes, IsRouted, routed-from_sound, sound-from_routed, space-walk, last-walk}
use Rattle.sr_laws.proofs.Order.{push, PathLe-push, PathLe-trans}
pub use Rattle.sr_laws.specs.Exact.{IsExact, Knows}

pub routes-walk : (n : Net) (x : List Bool) (u : ℕ) (ss : List Segment) (w c : ℕ) → Routes n x u ss w c → (p : List ℕ) × IsWalk n.graph x u p w × (cost n.graph p ≡ c) × Passes n.graph u p
routes-walk n x u [] w c a = ([], a.0, sym a.1, tt)
routes-walk n x u (Node v ∷ ss) w c a =
    let q : (p : List ℕ) × IsWalk n.graph x u p v.0 × (cost n.graph p ≡ a.0) = space-walk n.graph x u v.0 a.0 a.5 a.6 in
    let r : (p : List ℕ) × IsWalk n.graph x v.0 p w × (cost n.graph p ≡ a.1) × Passes n.graph v.0 p = routes-walk n x v.0 ss w a.1 a.7 in
    (q.0 ++ r.0, IsWalk-append n.graph x u q.0 v.0 r.0 w q.1 r.1 r.3, omega (arith, cost-append n.graph q.0 r.0, q.2, r.2, a.8), passes-clear n.graph u (q.0 ++ r.0) a.9)
routes-walk n x u (Adj l ∷ ss) w c a =
    let r : (p : List ℕ) × IsWalk n.graph x (head n.graph l.0) p w × (cost n.graph p ≡ a.0) × Passes n.graph (head n.graph l.0) p = routes-walk n x (head n.graph l.0) ss w a.0 a.5 in
    (l.0 ∷ r.0, (a.1, a.3, a.2, r.1, r.3), omega (arith, r.2, a.6), a.7)

pub routes-append : (n : Net) (x : List Bool) (u : ℕ) (ss : List Segment) (w c : ℕ) (ts : List Segment) (v e : ℕ) → Routes n x u ss w c → Routes n x w ts v e → Routes n x u (ss ++ ts) v (c + e)
routes-append n x u [] w c ts v e a b = rw a.0 (subst (λ k. Routes n x w ts v k) (omega (arith, a.1)) b)
routes-append n x u (Node k ∷ ss) w c ts v e a b =
    (a.0, a.1 + e, a.2, a.3, a.4, a.5, a.6, routes-append n x k.0 ss w a.1 ts v e a.7 b, omega (arith, a.8), a.9)
routes-append n x u (Adj l ∷ ss) w c ts v e a b =
    (a.0 + e, a.1, a.2, a.3, a.4, routes-append n x (head n.graph l.0) ss w a.0 ts v e a.5 b, omega (arith, a.6), a.7)

pub routes-cut : (n : Net) (x : List Bool) (u : ℕ) (ss : List Segment) (ts : List Segment) (v c : ℕ) → Routes n x u (ss ++ ts) v c → (w : ℕ) × (d : ℕ) × (e : ℕ) × Routes n x u ss w d × Routes n x w ts v e × (c ≡ d + e)
routes-cut n x u [] ts v c a = (u, 0, c, (refl, refl), a, omega arith)
routes-cut n x u (Node k ∷ ss) ts v c a =
    let r : (w : ℕ) × (d : ℕ) × (e : ℕ) × Routes n x k.0 ss w d × Routes n x w ts v e × (a.1 ≡ d + e) = routes-cut n x k.0 ss ts v a.1 a.7 in
    (r.0, a.0 + r.1, r.2, (a.0, r.1, a.2, a.3, a.4, a.5, a.6, r.3, refl, a.9), r.4, omega (arith, a.8, r.5))
routes-cut n x u (Adj l ∷ ss) ts v c a =
    let r : (w : ℕ) × (d : ℕ) × (e : ℕ) × Routes n x (head n.graph l.0) ss w d × Routes n x w ts v e × (a.0 ≡ d + e) = routes-cut n x (head n.graph l.0) ss ts v a.0 a.5 in
    (r.0, metric n.graph l.0 + r.1, r.2, (r.1, a.1, a.2, a.3, a.4, r.3, refl, a.7), r.4, omega (arith, a.6, r.5))

-- a way to w that goes on to v at the distance of v is at the distance of w
pub distance-before : (g : Graph) (x : List Bool) (s w v c e : ℕ) → (p : List ℕ) → IsWalk g x s p w → cost g p ≡ c → (q : List ℕ) → IsWalk g x w q v → cost g q ≡ e → Passes g w q → IsDistance g x s v (c + e) → IsDistance g x s w c
distance-before g x s w v c e p a pc q b qc pass whole = record {
  reached = (p, a, pc);
  least = λ o f. let le : c + e ≤ cost g (o ++ q) = whole.least (o ++ q) (IsWalk-append g x s o w q v f b pass) in omega (arith, cost-append g o q);
}

-- an exact list without its last segment is exact
pub exact-before : (n : Net) (x : List Bool) (s v first : ℕ) (ss : List Segment) (t : Segment) → IsExact n x s v (record { first = first; segments = ss ++ t ∷ [] }) → (w : ℕ) × (e : ℕ) × (i : IsExact n x s w (record { first = first; segments = ss })) × Routes n x w (t ∷ []) v e × IsDistance n.graph x s v (metric n.graph first + i.middle + e)
exact-before n x s v first ss t a =
    let r : (w : ℕ) × (d : ℕ) × (e : ℕ) × Routes n x (head n.graph first) ss w d × Routes n x w (t ∷ []) v e × (a.middle ≡ d + e) = routes-cut n x (head n.graph first) ss (t ∷ []) v a.middle a.leads in
    let p = routes-walk n x (head n.graph first) ss r.0 r.1 r.3 in
    let q = routes-walk n x r.0 (t ∷ []) v r.2 r.4 in (
      r.0,
      r.2,
      record {
        within = a.within;
        begins = a.begins;
        outside = a.outside;
        middle = r.1;
        leads = r.3;
        fits = distance-before n.graph x s r.0 v (metric n.graph first + r.1) r.2 (first ∷ p.0) (a.within, a.outside, a.begins, p.1, p.3) (omega (arith, p.2)) q.0 q.1 q.2 q.3
            (subst (λ k. IsDistance n.graph x s v k) (omega (arith, r.5)) a.fits);
      },
      r.4,
      subst (λ k. IsDistance n.graph x s v k) (omega (arith, r.5)) a.fits,
    )

-- and with one more segment that keeps to the distance it is exact again
pub exact-push : (n : Net) (x : List Bool) (s w v e : ℕ) (a : Path) (t : Segment) → (i : IsExact n x s w a) → Routes n x w (t ∷ []) v e → IsDistance n.graph x s v (metric n.graph a.first + i.middle + e) → IsExact n x s v (push a t)
exact-push n x s w v e a t i b whole = record {
  within = i.within;
  begins = i.begins;
  outside = i.outside;
  middle = i.middle + e;
  leads = routes-append n x (head n.graph a.first) a.segments w i.middle (t ∷ []) v e i.leads b;
  fits = subst (λ k. IsDistance n.graph x s v k) (omega arith) whole;
}

-- a sound list is exact to its last waypoint
abbrev pub exact-from_routed : (n : Net) (x : List Bool) (s d : ℕ) (a : Path) → (i : IsRouted n x s d a) → IsExact n x s i.last a
exact-from_routed n x s d a i =
    let p = routes-walk n x (head n.graph a.first) a.segments i.last i.middle i.leads in
    let q = last-walk n.graph x i.last d i.rest i.free i.ends i.goes_on in
    record {
      within = i.within;
      begins = i.begins;
      outside = i.outside;
      middle = i.middle;
      leads = i.leads;
      fits = distance-before n.graph x s i.last d (metric n.graph a.first + i.middle) i.rest (a.first ∷ p.0) (i.within, i.outside, i.begins, p.1, p.3) (omega (arith, p.2)) q.0 q.1 q.2 q.3 i.fits;
    }

-- what a search knows of each waypoint: a list that is exact to it, and no greater than any other
pub record IsBest (n : Net) (x : List Bool) (s w : ℕ) (a : Path) : Type 0 where
  pub exact : IsExact n x s w a
  pub least : (b : Path) → IsExact n x s w b → PathLe a b

-- what it is to have when it ends: exact lists, closed under one more segment
pub record IsClosed (n : Net) (x : List Bool) (s : ℕ) (known : List (Option Path)) : Type 0 where
  pub exact : (w : ℕ) (a : Path) → Knows known w a → IsExact n x s w a
  pub starts : (w first : ℕ) → IsExact n x s w (record { first = first; segments = [] }) → (a : Path) × Knows known w a × PathLe a (record { first = first; segments = [] })
  pub goes_on : (w v e : ℕ) (a : Path) (t : Segment) (k : Knows known w a) → Routes n x w (t ∷ []) v e → IsDistance n.graph x s v (metric n.graph a.first + (exact w a k).middle + e) → (b : Path) × Knows known v b × PathLe b (push a t)

-- a segment list is empty or has a last segment
pub snoc_cases : (ss : List Segment) → (ss ≡ []) ⊎ ((init : List Segment) × (last : Segment) × (ss ≡ init ++ last ∷ []))
snoc_cases [] = inl refl
snoc_cases (s ∷ ss) =
    ⊎_elim
    (λ e. inr ([], s, ap (λ k. s ∷ k) e))
    (λ r. inr (s ∷ r.0, r.1, ap (λ k. s ∷ k) r.2))
    (snoc_cases ss)

le_same : (p : Path) (first : ℕ) (ss ts : List Segment) → ss ≡ ts → PathLe p (record { first = first; segments = ts }) → PathLe p (record { first = first; segments = ss })
le_same p first ss ts e le = subst (λ (j : List Segment). PathLe p (record { first = first; segments = j })) (sym e) le

-- then it knows a list no greater than any exact one
pub closed-least : (n : Net) (x : List Bool) (s : ℕ) (known : List (Option Path)) → IsClosed n x s known → (k w first : ℕ) (ss : List Segment) → length ss ≤ k → IsExact n x s w (record { first = first; segments = ss }) → (a : Path) × Knows known w a × PathLe a (record { first = first; segments = ss })
closed-least n x s known c zero w first [] short exact = c.starts w first exact
closed-least n x s known c zero w first (t ∷ ss) short exact = absurd (omega arith)
closed-least n x s known c (suc k) w first ss short exact =
    ⊎_elim
    (λ e. rw e (c.starts w first (rw e at exact)))
    (λ r0.
    let b = exact-before n x s w first r0.0 r0.1 (rw r0.2 at exact) in
    let r : (a : Path) × Knows known b.0 a × PathLe a (record { first = first; segments = r0.0 }) = closed-least n x s known c k b.0 first r0.0 (omega (arith, ap length r0.2, length-append r0.0 (r0.1 ∷ []))) b.2 in
    let same : metric n.graph r.0.first + (c.exact b.0 r.0 r.1).middle ≡ metric n.graph first + b.2.middle = distance-unique n.graph x s b.0 _ _ (c.exact b.0 r.0 r.1).fits b.2.fits in
    let q : (a : Path) × Knows known w a × PathLe a (push r.0 r0.1) = c.goes_on b.0 w b.1 r.0 r0.1 r.1 b.3 (subst (λ j. IsDistance n.graph x s w (j + b.1)) (sym same) b.4) in
    (q.0, q.1, le_same q.0 first ss (r0.0 ++ r0.1 ∷ []) r0.2 (PathLe-trans q.0 (push r.0 r0.1) (push (record { first = first; segments = r0.0 }) r0.1) q.2 (PathLe-push r.0 (record { first = first; segments = r0.0 }) r0.1 r.2))))
    (snoc_cases ss)

-- the least of the known lists whose waypoint has the destination in Q, at the whole distance, is the least sound
-- list
pub record Serves (n : Net) (x : List Bool) (s d w : ℕ) (a : Path) : Type 0 where
  pub exact : IsExact n x s w a
  pub rest : ℕ
  pub free : carries n.graph d w ≡ true
  pub ends : InQ n.graph x d w
  pub goes_on : IsDistance n.graph [] w d rest
  pub fits : IsDistance n.graph x s d (metric n.graph a.first + exact.middle + rest)

pub sound-from_serves : (n : Net) (x : List Bool) (s d w : ℕ) (a : Path) → Serves n x s d w a → IsSound n x s d a
sound-from_serves n x s d w a v = sound-from_routed n x s d a (record {
  within = v.exact.within;
  begins = v.exact.begins;
  outside = v.exact.outside;
  last = w;
  middle = v.exact.middle;
  rest = v.rest;
  leads = v.exact.leads;
  free = v.free;
  ends = v.ends;
  goes_on = v.goes_on;
  fits = v.fits;
})

-- a known list to the last waypoint of a sound list serves too, and is no greater
serves-from_routed : (n : Net) (x : List Bool) (s d : ℕ) (known : List (Option Path)) → IsClosed n x s known → (b : Path) → (i : IsRouted n x s d b) → (a : Path) × Knows known i.last a × Serves n x s d i.last a × PathLe a b
serves-from_routed n x s d known c b i =
    let r : (a : Path) × Knows known i.last a × PathLe a b = closed-least n x s known c (length b.segments) i.last b.first b.segments (omega arith) (exact-from_routed n x s d b i) in
    let e : IsExact n x s i.last r.0 = c.exact i.last r.0 r.1 in
    let same : metric n.graph r.0.first + e.middle ≡ metric n.graph b.first + i.middle = distance-unique n.graph x s i.last _ _ e.fits (exact-from_routed n x s d b i).fits in (
      r.0,
      r.1,
      record { exact = e; rest = i.rest; free = i.free; ends = i.ends; goes_on = i.goes_on; fits = subst (λ j. IsDistance n.graph x s d (j + i.rest)) (sym same) i.fits },
      r.2,
    )

pub serves-from_sound : (n : Net) (x : List Bool) (s d : ℕ) (known : List (Option Path)) → IsGraph n.graph → IsClosed n x s known → (b : Path) → IsSound n x s d b → (w : ℕ) × (a : Path) × Knows known w a × Serves n x s d w a × PathLe a b
serves-from_sound n x s d known g c b i =
    let j : IsRouted n x s d b = routed-from_sound n x s d b g i in
    let r = serves-from_routed n x s d known c b j in
    (j.last, r.0, r.1, r.2, r.3)

-- so the least known list that serves is the least sound one
pub least-from_known : (n : Net) (x : List Bool) (s d : ℕ) (known : List (Option Path)) → IsGraph n.graph → IsClosed n x s known → (w : ℕ) (a : Path) → Serves n x s d w a → ((u : ℕ) (b : Path) → Knows known u b → Serves n x s d u b → PathLe a b) → IsLeast n x s d a
least-from_known n x s d known g c w a serves least = record {
  sound = sound-from_serves n x s d w a serves;
  least = λ b i.
      let r = serves-from_sound n x s d known g c b i in
      PathLe-trans a r.1 b (least r.0 r.1 r.2 r.3) r.4;
}

-- and where no known list serves, no list is sound
pub none-from_known : (n : Net) (x : List Bool) (s d : ℕ) (known : List (Option Path)) → IsGraph n.graph → IsClosed n x s known → ((u : ℕ) (b : Path) → Knows known u b → Serves n x s d u b → ⊥) → (b : Path) → IsSound n x s d b → ⊥
none-from_known n x s d known g c none b i =
    let r = serves-from_sound n x s d known g c b i in
    none r.0 r.1 r.2 r.3
