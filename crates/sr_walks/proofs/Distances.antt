-- Distances, shortest walks and what lies on them.
use Rattle.std.proofs.Common.{◌≡◌, ◌≢◌, ℕ, ◌+◌, ◌<◌, ◌≤◌, ◌⊎◌, ⊎_elim, Bool, true, false, List, [], ◌∷◌, ◌++◌, append_assoc, refl, arith, sym, subst}
use Rattle.std.specs.Prelude.{All, ◌↔◌}
use Rattle.std.proofs.lemmas.List.Elements.{All-nil, All-cons, All-head, All-tail}
use Rattle.std.proofs.lemmas.Bool.{cases_lt}
use Rattle.sr_model.specs.Graph.{Graph, carries, has, head, link_count, metric, tail}
use Rattle.sr_model.specs.Space.{Avoids, InP}
use Rattle.sr_model.specs.Walk.{IsCell, IsDistance, IsNextHop, IsShortest, IsWalk, OnShortest, Passes, cost}
use Rattle.sr_model.specs.declared.link.TheConstants.{FAR}
use Rattle.sr_walks.proofs.Walks.{IsWalk-append, IsWalk-cut, cost-append, carries-cases, carries-same, carries-clear, passes-clear, passes-cases, passes-carries}

pub distance-unique : (g : Graph) (x : List Bool) (u v c d : ℕ) → IsDistance g x u v c → IsDistance g x u v d → c ≡ d
distance-unique g x u v c d a b =
    let le : c ≤ cost g b.reached.0 = a.least b.reached.0 b.reached.1 in
    let ge : d ≤ cost g a.reached.0 = b.least a.reached.0 a.reached.1 in
    omega (arith, a.reached.2, b.reached.2)

pub distance-self : (g : Graph) (x : List Bool) (u : ℕ) → IsDistance g x u u 0
distance-self g x u = record { reached = ([], refl, refl); least = λ p a. omega arith }

-- a way to a node beside the beginning, which any walk from there may go on
pub walk-into : (g : Graph) (x : List Bool) (u w c : ℕ) → carries g u w ≡ true → IsDistance g x u w c → (p : List ℕ) × IsWalk g x u p w × (cost g p ≡ c) × ((q : List ℕ) (v : ℕ) → IsWalk g x w q v → IsWalk g x u (p ++ q) v)
walk-into g x u w c carry d =
    ⊎_elim
    (λ (e : w ≡ u). ([], sym e, distance-unique g x u u 0 c (distance-self g x u) (rw e at d), λ q v b. rw e at b))
    (λ clear. (d.reached.0, d.reached.1, d.reached.2, λ q v b. IsWalk-append g x u d.reached.0 w q v d.reached.1 b (passes-clear g w q clear)))
    (carries-cases g u w carry)

-- a way from a node beside the end, which may go on any walk to there
pub walk-out : (g : Graph) (x : List Bool) (w v c : ℕ) → carries g v w ≡ true → IsDistance g x w v c → (q : List ℕ) × IsWalk g x w q v × (cost g q ≡ c) × Passes g w q
walk-out g x w v c carry d =
    ⊎_elim
    (λ (e : w ≡ v). ([], e, distance-unique g x v v 0 c (distance-self g x v) (rw e at d), tt))
    (λ clear. (d.reached.0, d.reached.1, d.reached.2, passes-clear g w d.reached.0 clear))
    (carries-cases g v w carry)

-- the distance by a waypoint is no less
pub distance-triangle : (g : Graph) (x : List Bool) (u w v c d e : ℕ) → carries g u w ≡ true → IsDistance g x u w c → IsDistance g x w v d → IsDistance g x u v e → e ≤ c + d
distance-triangle g x u w v c d e carry a b whole =
    let r = walk-into g x u w c carry a in
    let le : e ≤ cost g (r.0 ++ b.reached.0) = whole.least _ (r.3 b.reached.0 v b.reached.1) in
    omega (arith, cost-append g r.0 b.reached.0, r.2, b.reached.2)

-- a walk as cheap as the distance is a shortest one, and the other way round
pub IsShortest-from_cost : (g : Graph) (x : List Bool) (u v c : ℕ) (p : List ℕ) → IsDistance g x u v c → IsWalk g x u p v → cost g p ≡ c → IsShortest g x u p v
IsShortest-from_cost g x u v c p d a e = (a, λ q b. let le : c ≤ cost g q = d.least q b in omega arith)

pub distance-from_shortest : (g : Graph) (x : List Bool) (u v : ℕ) (p : List ℕ) → IsShortest g x u p v → IsDistance g x u v (cost g p)
distance-from_shortest g x u v p s = record { reached = (p, s.0, refl); least = s.1 }

-- each part of a shortest walk is a shortest one
pub shortest-cut : (g : Graph) (x : List Bool) (u : ℕ) (p q : List ℕ) (v : ℕ) → IsShortest g x u (p ++ q) v → (w : ℕ) × IsShortest g x u p w × IsShortest g x w q v × ((p ≡ []) ⊎ Passes g w q)
shortest-cut g x u p q v s =
    let r : (w : ℕ) × IsWalk g x u p w × IsWalk g x w q v × ((p ≡ []) ⊎ Passes g w q) = IsWalk-cut g x u p q v s.0 in (
      r.0,
      (
        r.1,
        λ o b. ⊎_elim
            (λ e. rw e (omega arith))
            (λ (pass : Passes g r.0 q). let le : cost g (p ++ q) ≤ cost g (o ++ q) = s.1 (o ++ q) (IsWalk-append g x u o r.0 q v b r.2 pass) in omega (arith, cost-append g p q, cost-append g o q))
            r.3,
      ),
      (
        r.2,
        λ o b. ⊎_elim
            (λ e.
            let here : u ≡ r.0 = subst (λ k. IsWalk g x u k r.0) e r.1 in
            let le : cost g (p ++ q) ≤ cost g o = s.1 o (rw here b) in
            omega (arith, cost-append g p q))
            (λ (pass : Passes g r.0 q). ⊎_elim
            (λ (e : q ≡ []). rw e (omega arith))
            (λ clear. let le : cost g (p ++ q) ≤ cost g (p ++ o) = s.1 (p ++ o) (IsWalk-append g x u p r.0 o v r.1 b (passes-clear g r.0 o clear)) in omega (arith, cost-append g p q, cost-append g p o))
            (passes-cases g r.0 q pass))
            r.3,
      ),
      r.3,
    )

-- it does where the nodes beside its ends carry and the distances round it add up
pub OnShortest-from_sum : (g : Graph) (x : List Bool) (u v l c d : ℕ) → l < link_count g → has x l ≡ false → carries g u (tail g l) ≡ true → carries g v (head g l) ≡ true → IsDistance g x u (tail g l) c → IsDistance g x (head g l) v d → IsDistance g x u v (c + metric g l + d) → OnShortest g x u v l
OnShortest-from_sum g x u v l c d within outside from to a b whole =
    let p = walk-into g x u (tail g l) c from a in
    let q = walk-out g x (head g l) v d to b in
    let s : IsShortest g x u (p.0 ++ l ∷ q.0) v = (IsShortest-from_cost g x u v (c + metric g l + d) (p.0 ++ l ∷ q.0) whole
    (p.3 (l ∷ q.0) v (within, outside, refl, q.1, q.3))
    (omega (arith, cost-append g p.0 (l ∷ q.0), p.2, q.2))) in
    record { before = p.0; after = q.0; shortest = s }

-- a link on a walk has such nodes beside its ends
link-carries : (g : Graph) (x : List Bool) (u v l : ℕ) (p q : List ℕ) → IsWalk g x u (p ++ l ∷ q) v → (carries g u (tail g l) ≡ true) × (carries g v (head g l) ≡ true)
link-carries g x u v l p q a =
    let r : (w : ℕ) × IsWalk g x u p w × IsWalk g x w (l ∷ q) v × ((p ≡ []) ⊎ Passes g w (l ∷ q)) = IsWalk-cut g x u p (l ∷ q) v a in
    let begins : tail g l ≡ r.0 = r.2.2 in (
      ⊎_elim
          (λ e. let here : u ≡ r.0 = subst (λ k. IsWalk g x u k r.0) e r.1 in carries-same g u (tail g l) (omega arith))
          (λ clear. carries-clear g u (tail g l) (rw begins clear))
          r.3,
      passes-carries g x (head g l) q v r.2.3 r.2.4,
    )

pub OnShortest-carries : (g : Graph) (x : List Bool) (u v l : ℕ) → OnShortest g x u v l → (carries g u (tail g l) ≡ true) × (carries g v (head g l) ≡ true)
OnShortest-carries g x u v l on = link-carries g x u v l on.before on.after on.shortest.0

sum_at : (g : Graph) (x : List Bool) (u v l e : ℕ) → IsDistance g x u v e → (p q : List ℕ) → IsShortest g x u (p ++ l ∷ q) v → (c : ℕ) × (d : ℕ) × IsDistance g x u (tail g l) c × IsDistance g x (head g l) v d × (e ≡ c + metric g l + d)
sum_at g x u v l e whole p q s =
    let r = shortest-cut g x u p (l ∷ q) v s in
    let t = shortest-cut g x r.0 (l ∷ []) q v r.2 in
    let begins : tail g l ≡ r.0 = r.2.0.2 in
    let ends : head g l ≡ t.0 = t.1.0.3 in
    let same : e ≡ cost g (p ++ l ∷ q) = distance-unique g x u v e _ whole (distance-from_shortest g x u v (p ++ l ∷ q) s) in (
      cost g p,
      cost g q,
      rw begins (distance-from_shortest g x u r.0 p r.1),
      rw ends (distance-from_shortest g x t.0 v q t.2),
      omega (arith, cost-append g p (l ∷ q)),
    )

-- and only there
pub sum-from_OnShortest : (g : Graph) (x : List Bool) (u v l e : ℕ) → IsDistance g x u v e → OnShortest g x u v l → (c : ℕ) × (d : ℕ) × IsDistance g x u (tail g l) c × IsDistance g x (head g l) v d × (e ≡ c + metric g l + d)
sum-from_OnShortest g x u v l e whole on =
    sum_at g x u v l e whole on.before on.after on.shortest

-- a cell below FAR is the distance, also where the distance alone is known to be small
pub cell-distance : (g : Graph) (x : List Bool) (u v a c : ℕ) → IsCell g x u v a → IsDistance g x u v c → c < FAR → a ≡ c
cell-distance g x u v a c cell d small =
    ⊎_elim
    (λ near. distance-unique g x u v a c (cell.near near) d)
    (λ far. absurd (cell.far far d.reached.0 d.reached.1))
    (cases_lt a FAR)

-- by cells: the test on sums says whether the link stands on a shortest walk
pub tight-OnShortest : (g : Graph) (x : List Bool) (u v l a b e : ℕ) → l < link_count g → has x l ≡ false → carries g u (tail g l) ≡ true → carries g v (head g l) ≡ true → IsCell g x u (tail g l) a → IsCell g x (head g l) v b → IsCell g x u v e → e < FAR → a + metric g l + b ≡ e → OnShortest g x u v l
tight-OnShortest g x u v l a b e within outside from to ca cb ce near tight =
    OnShortest-from_sum g x u v l a b within outside from to (ca.near (omega arith)) (cb.near (omega arith)) (rw tight (ce.near near))

pub OnShortest-tight : (g : Graph) (x : List Bool) (u v l a b e : ℕ) → IsCell g x u (tail g l) a → IsCell g x (head g l) v b → IsCell g x u v e → e < FAR → OnShortest g x u v l → a + metric g l + b ≡ e
OnShortest-tight g x u v l a b e ca cb ce near on =
    let r : (c : ℕ) × (d : ℕ) × IsDistance g x u (tail g l) c × IsDistance g x (head g l) v d × (e ≡ c + metric g l + d) = sum-from_OnShortest g x u v l e (ce.near near) on in
    let same_a : a ≡ r.0 = cell-distance g x u (tail g l) a r.0 ca r.2 (omega arith) in
    let same_b : b ≡ r.1 = cell-distance g x (head g l) v b r.1 cb r.3 (omega arith) in
    omega arith

-- l begins a shortest walk where its end carries, and its metric and the distance from its end add up
pub IsNextHop-from_sum : (g : Graph) (x : List Bool) (u v l d : ℕ) → l < link_count g → has x l ≡ false → tail g l ≡ u → carries g v (head g l) ≡ true → IsDistance g x (head g l) v d → IsDistance g x u v (metric g l + d) → IsNextHop g x u v l
IsNextHop-from_sum g x u v l d within outside begins to b whole =
    let q = walk-out g x (head g l) v d to b in
    record { more = q.0; shortest = IsShortest-from_cost g x u v (metric g l + d) (l ∷ q.0) whole (within, outside, begins, q.1, q.3) (omega (arith, q.2)) }

pub sum-from_IsNextHop : (g : Graph) (x : List Bool) (u v l e : ℕ) → IsDistance g x u v e → IsNextHop g x u v l → (l < link_count g) × (tail g l ≡ u) × ((d : ℕ) × IsDistance g x (head g l) v d × (e ≡ metric g l + d)) × (carries g v (head g l) ≡ true)
sum-from_IsNextHop g x u v l e whole hop =
    let s : IsShortest g x u (l ∷ hop.more) v = hop.shortest in
    let t = shortest-cut g x u (l ∷ []) hop.more v s in
    let ends : head g l ≡ t.0 = t.1.0.3 in (
      s.0.0,
      s.0.2,
      (
        cost g hop.more,
        rw ends (distance-from_shortest g x t.0 v hop.more t.2),
        distance-unique g x u v e _ whole (distance-from_shortest g x u v (l ∷ hop.more) s),
      ),
      passes-carries g x (head g l) hop.more v s.0.3 s.0.4,
    )

bool_cases : (b : Bool) → (b ≡ true → b ≡ false) → b ≡ false
bool_cases true f = f refl
bool_cases false f = refl

-- the walk's part after `front` avoids x, where no link of x stands on a shortest walk
avoids_after : (g : Graph) (x : List Bool) (u v : ℕ) → ((l : ℕ) → l < link_count g → has x l ≡ true → OnShortest g [] u v l → ⊥) → (front : List ℕ) (p : List ℕ) → IsShortest g [] u (front ++ p) v → Avoids x p
avoids_after g x u v none front [] s = All-nil (λ l. has x l ≡ false)
avoids_after g x u v none front (l ∷ p) s =
    let r : (w : ℕ) × IsWalk g [] u front w × IsWalk g [] w (l ∷ p) v × ((front ≡ []) ⊎ Passes g w (l ∷ p)) = IsWalk-cut g [] u front (l ∷ p) v s.0 in
    All-cons (λ k. has x k ≡ false) l p
    (bool_cases (has x l) (λ e. absurd (none l r.2.0 e (record { before = front; after = p; shortest = s }))))
    (avoids_after g x u v none (front ++ l ∷ []) p (rw append_assoc s))

-- v is in P of u where u reaches it and no link of x stands on a shortest walk
pub InP-from_none : (g : Graph) (x : List Bool) (u v : ℕ) (p : List ℕ) → IsWalk g [] u p v → ((l : ℕ) → l < link_count g → has x l ≡ true → OnShortest g [] u v l → ⊥) → InP g x u v
InP-from_none g x u v p a none = record { reached = (p, a); avoids = λ q s. avoids_after g x u v none [] q s }

all_at : (P : ℕ → Type 0) (p : List ℕ) (l : ℕ) (q : List ℕ) → All P (p ++ l ∷ q) → P l
all_at P [] l q a = All-head P l q a
all_at P (k ∷ p) l q a = all_at P p l q (All-tail P k (p ++ l ∷ q) a)

pub none-from_InP : (g : Graph) (x : List Bool) (u v l : ℕ) → InP g x u v → has x l ≡ true → OnShortest g [] u v l → ⊥
none-from_InP g x u v l inside is on =
    let out : has x l ≡ false = all_at (λ k. has x k ≡ false) on.before l on.after (inside.avoids (on.before ++ l ∷ on.after) on.shortest) in cc

-- the test by sums, where the distances are known
pub shortest-by_sums : (g : Graph) (x : List Bool) (u v l c d e : ℕ) → l < link_count g → has x l ≡ false → IsDistance g x u (tail g l) c → IsDistance g x (head g l) v d → IsDistance g x u v e → OnShortest g x u v l ↔ ((carries g u (tail g l) ≡ true) × (carries g v (head g l) ≡ true) × (c + metric g l + d ≡ e))
shortest-by_sums g x u v l c d e within outside a b whole = (
  λ on.
      let r = sum-from_OnShortest g x u v l e whole on in
      let k = OnShortest-carries g x u v l on in
      let same_a : c ≡ r.0 = distance-unique g x u (tail g l) c r.0 a r.2 in
      let same_b : d ≡ r.1 = distance-unique g x (head g l) v d r.1 b r.3 in
      (k.0, k.1, omega (arith, r.4)),
  λ k. OnShortest-from_sum g x u v l c d within outside k.0 k.1 a b (rw k.2 whole),
)

pub parts-shortest : (g : Graph) (x : List Bool) (u : ℕ) (p q : List ℕ) (v : ℕ) → IsShortest g x u (p ++ q) v → (w : ℕ) × IsShortest g x u p w × IsShortest g x w q v
parts-shortest g x u p q v s = let r = shortest-cut g x u p q v s in (r.0, r.1, r.2)

-- next hops by sums
pub hop-by_sums : (g : Graph) (x : List Bool) (u v l d e : ℕ) → l < link_count g → has x l ≡ false → tail g l ≡ u → IsDistance g x (head g l) v d → IsDistance g x u v e → IsNextHop g x u v l ↔ ((carries g v (head g l) ≡ true) × (metric g l + d ≡ e))
hop-by_sums g x u v l d e within outside begins b whole = (
  λ hop.
      let r = sum-from_IsNextHop g x u v l e whole hop in
      let same : d ≡ r.2.0 = distance-unique g x (head g l) v d r.2.0 b r.2.1 in
      (r.3, omega (arith, r.2.2)),
  λ k. IsNextHop-from_sum g x u v l d within outside begins k.0 b (rw k.1 whole),
)

-- spaces by sums
pub space-by_sums : (g : Graph) (x : List Bool) (u v e : ℕ) → IsDistance g [] u v e → InP g x u v ↔ ((l c d : ℕ) → l < link_count g → has x l ≡ true → carries g u (tail g l) ≡ true → carries g v (head g l) ≡ true → IsDistance g [] u (tail g l) c → IsDistance g [] (head g l) v d → c + metric g l + d ≢ e)
space-by_sums g x u v e whole = (
  λ inside l c d within is from to a b sum. none-from_InP g x u v l inside is (OnShortest-from_sum g [] u v l c d within refl from to a b (rw sum whole)),
  λ none. InP-from_none g x u v whole.reached.0 whole.reached.1 (λ l within is on.
      let r = sum-from_OnShortest g [] u v l e whole on in
      let k = OnShortest-carries g [] u v l on in
      none l r.0 r.1 within is k.0 k.1 r.2 r.3 (sym r.4)),
)
