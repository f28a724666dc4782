-- A row is exact where each cell is settled, and only there.
use Rattle.std.proofs.Common.{◌≡◌, ◌≢◌, ℕ, zero, suc, ◌+◌, ◌*◌, ◌-◌, ◌<◌, ◌≤◌, ◌⊎◌, ⊎_elim, inl, inr, Bool, false, List, [], ◌∷◌, ◌++◌, length, refl, arith, ap, sym, ◌∙◌, subst}
use Rattle.std.specs.Prelude.{slice_index, ◌↔◌}
use Rattle.std.proofs.lemmas.Bool.{cases_lt, cases_eq}
use Rattle.sr_model.specs.Graph.{Graph, IsGraph, IsLink, has, head, link_at, link_count, metric, node_count, tail}
use Rattle.sr_model.specs.Walk.{IsCell, IsDistance, IsRow, IsShortest, IsWalk, Passes, cost}
use Rattle.sr_model.specs.declared.link.TheConstants.{FAR, MOST_NODES, MOST_METRIC}
use Rattle.sr_walks.proofs.Walks.{IsWalk-push, cost-append, carries-cases, passes-clear, passes-carries, begins-self, stable-cost, stable-near, IsStable}
use Rattle.sr_walks.proofs.Distances.{distance-unique, distance-self, walk-out, shortest-cut, IsShortest-from_cost, distance-from_shortest, cell-distance, OnShortest-carries}
use Rattle.sr_walks.proofs.Rows.{row-stable}
use Rattle.sr_walks.proofs.Distinct.{distance-small}
use Rattle.sr_cert.specs.Rows.{Heading, From, To, IsRowTo}
use Rattle.sr_cert.specs.Settled.{base, far_end, Serves, offer_at, Reaches, AreToldByLinks, IsExactWithout}
use Rattle.sr_seq.proofs.ListLemmas.{last-cut}

module _ (g : Graph) (x : List Bool) (h : Heading) (cells : List ℕ) (settled : AreToldByLinks g x h cells) where
  -- the cell of the row's own node is 0
  own-cell : base h < node_count g → slice_index cells (base h) ≡ 0
  own-cell within = ⊎_elim (λ own. own.1) (λ other. absurd (other.0 refl)) (settled (base h) within)

  top-cell : (w : ℕ) → w < node_count g → slice_index cells w ≤ FAR
  top-cell w within = ⊎_elim (λ own. omega (arith, own.1)) (λ other. other.1.top) (settled w within)

  -- no link betters a cell
  stable-cell : (w l : ℕ) → w < node_count g → far_end g h l ≡ w → Serves g x h l → slice_index cells w ≤ offer_at g h cells l
  stable-cell w l within leads serves =
      ⊎_elim (λ own. omega (arith, own.1)) (λ other. other.1.least l leads serves) (settled w within)

  -- some link meets each cell below FAR
  met-cell : (w : ℕ) → w < node_count g → w ≢ base h → slice_index cells w < FAR → (l : ℕ) × Reaches g h w l × Serves g x h l × (offer_at g h cells l ≡ slice_index cells w)
  met-cell w within ne near = ⊎_elim (λ own. absurd (ne own.0)) (λ other. other.1.met near) (settled w within)

-- rows from a node u
module _ (g : Graph) (graph : IsGraph g) (x : List Bool) (u : ℕ) (begins : u < node_count g) (cells : List ℕ) where
  module _ (settled : AreToldByLinks g x (From u) cells) where
    -- a cell below FAR is what some walk costs
    from-reached : (k w : ℕ) → w < node_count g → slice_index cells w < k → k ≤ FAR → (p : List ℕ) × IsWalk g x u p w × (cost g p ≡ slice_index cells w)
    from-reached zero w within lt top = absurd (omega (arith, lt))
    from-reached (suc k) w within lt top =
        ⊎_elim
        (λ (e : w ≡ u). ([], sym e, let own = own-cell g x (From u) cells settled begins in rw e (sym own)))
        (λ (ne : w ≢ u).
        let met = met-cell g x (From u) cells settled w within ne (omega arith) in
        let link : IsLink g (link_at g met.0) = graph.each met.0 met.2.within in
        let sum : slice_index cells (tail g met.0) + metric g met.0 ≡ slice_index cells w = met.3 in
        let r = from-reached k (tail g met.0) link.0 (omega arith) (omega arith) in
        ⊎_elim
        (λ (e : tail g met.0 ≡ u).
        let own : slice_index cells u ≡ 0 = own-cell g x (From u) cells settled begins in
        let same : slice_index cells (tail g met.0) ≡ slice_index cells u = ap (λ k. slice_index cells k) e in
        (met.0 ∷ [], (met.2.within, met.2.outside, e, met.1, tt), omega arith))
        (λ clear. (r.0 ++ met.0 ∷ [], subst (IsWalk g x u (r.0 ++ met.0 ∷ [])) met.1 (IsWalk-push g x u r.0 met.0 met.2.within met.2.outside clear r.1), omega (arith, cost-append g r.0 (met.0 ∷ []), r.2)))
        (carries-cases g u (tail g met.0) met.2.carry))
        (cases_eq w u)

    from-stable : IsStable g x u cells
    from-stable l within outside carry =
        let link : IsLink g (link_at g l) = graph.each l within in
        stable-cell g x (From u) cells settled (head g l) l link.1 refl (record { within = within; outside = outside; carry = carry })

    from-distance : (w : ℕ) → w < node_count g → slice_index cells w < FAR → IsDistance g x u w (slice_index cells w)
    from-distance w within near = record {
      reached = from-reached FAR w within near (omega arith);
      least = λ p a.
          let own : slice_index cells u ≡ 0 = own-cell g x (From u) cells settled begins in
          let le : slice_index cells w ≤ slice_index cells u + cost g p = stable-cost g x u cells from-stable u p w a (begins-self g u p) in
          omega arith;
    }

    from-near : (p : List ℕ) (w : ℕ) → IsWalk g x u p w → slice_index cells w < FAR
    from-near p w a =
        let own : slice_index cells u ≡ 0 = own-cell g x (From u) cells settled begins in
        stable-near g x u cells FAR
        (λ l within outside carry near.
        let link : IsLink g (link_at g l) = graph.each l within in
        let small : slice_index cells (tail g l) ≤ (MOST_NODES - 1) * MOST_METRIC = distance-small g graph x u (tail g l) _ begins (from-distance (tail g l) link.0 near) in
        let low : slice_index cells (head g l) ≤ slice_index cells (tail g l) + metric g l = from-stable l within outside carry in
        omega arith)
        u p w a (begins-self g u p) (omega arith)

    from-exact : length cells ≡ node_count g → IsRow g x u cells
    from-exact long = record {
      long = long;
      each = λ w within. record {
        top = top-cell g x (From u) cells settled w within;
        near = from-distance w within;
        far = λ far p a. let near : slice_index cells w < FAR = from-near p w a in absurd (omega arith);
      };
    }

-- rows to a node v
module _ (g : Graph) (graph : IsGraph g) (x : List Bool) (v : ℕ) (ends : v < node_count g) (cells : List ℕ) where
  module _ (settled : AreToldByLinks g x (To v) cells) where
    to-reached : (k w : ℕ) → w < node_count g → slice_index cells w < k → k ≤ FAR → (p : List ℕ) × IsWalk g x w p v × (cost g p ≡ slice_index cells w)
    to-reached zero w within lt top = absurd (omega (arith, lt))
    to-reached (suc k) w within lt top =
        ⊎_elim
        (λ (e : w ≡ v). ([], e, let own = own-cell g x (To v) cells settled ends in rw e (sym own)))
        (λ (ne : w ≢ v).
        let met = met-cell g x (To v) cells settled w within ne (omega arith) in
        let link : IsLink g (link_at g met.0) = graph.each met.0 met.2.within in
        let sum : slice_index cells (head g met.0) + metric g met.0 ≡ slice_index cells w = met.3 in
        let r = to-reached k (head g met.0) link.1 (omega arith) (omega arith) in
        ⊎_elim
        (λ (e : head g met.0 ≡ v).
        let own : slice_index cells v ≡ 0 = own-cell g x (To v) cells settled ends in
        let same : slice_index cells (head g met.0) ≡ slice_index cells v = ap (λ k. slice_index cells k) e in
        (met.0 ∷ [], (met.2.within, met.2.outside, met.1, e, tt), omega arith))
        (λ clear. (met.0 ∷ r.0, (met.2.within, met.2.outside, met.1, r.1, passes-clear g (head g met.0) r.0 clear), omega (arith, r.2)))
        (carries-cases g v (head g met.0) met.2.carry))
        (cases_eq w v)

    -- a link of a walk to v betters no cell
    to-stable : (l : ℕ) (p : List ℕ) → l < link_count g → has x l ≡ false → IsWalk g x (head g l) p v → Passes g (head g l) p → slice_index cells (tail g l) ≤ slice_index cells (head g l) + metric g l
    to-stable l p within outside a pass =
        let link : IsLink g (link_at g l) = graph.each l within in
        stable-cell g x (To v) cells settled (tail g l) l link.0 refl (record { within = within; outside = outside; carry = passes-carries g x (head g l) p v a pass })

    to-cost : (w : ℕ) (p : List ℕ) → IsWalk g x w p v → slice_index cells w ≤ cost g p
    to-cost w [] a = let own = own-cell g x (To v) cells settled ends in rw a (omega (arith, own))
    to-cost w (l ∷ p) a =
        let low : slice_index cells (tail g l) ≤ slice_index cells (head g l) + metric g l = to-stable l p a.0 a.1 a.3 a.4 in
        let rest : slice_index cells (head g l) ≤ cost g p = to-cost (head g l) p a.3 in
        let same : slice_index cells (tail g l) ≡ slice_index cells w = ap (λ k. slice_index cells k) a.2 in
        omega arith

    to-distance : (w : ℕ) → w < node_count g → slice_index cells w < FAR → IsDistance g x w v (slice_index cells w)
    to-distance w within near = record { reached = to-reached FAR w within near (omega arith); least = to-cost w }

    to-near : (w : ℕ) (p : List ℕ) → IsWalk g x w p v → slice_index cells w < FAR
    to-near w [] a = let own = own-cell g x (To v) cells settled ends in rw a (omega (arith, own))
    to-near w (l ∷ p) a =
        let link : IsLink g (link_at g l) = graph.each l a.0 in
        let low : slice_index cells (tail g l) ≤ slice_index cells (head g l) + metric g l = to-stable l p a.0 a.1 a.3 a.4 in
        let small : slice_index cells (head g l) ≤ (MOST_NODES - 1) * MOST_METRIC = distance-small g graph x (head g l) v _ link.1 (to-distance (head g l) link.1 (to-near (head g l) p a.3)) in
        let same : slice_index cells (tail g l) ≡ slice_index cells w = ap (λ k. slice_index cells k) a.2 in
        omega arith

    to-exact : length cells ≡ node_count g → IsRowTo g x v cells
    to-exact long = record {
      long = long;
      each = λ w within. record {
        top = top-cell g x (To v) cells settled w within;
        near = to-distance w within;
        far = λ far p a. let near : slice_index cells w < FAR = to-near w p a in absurd (omega arith);
      };
    }

-- the cell of a node's own distance is 0
own-exact : (g : Graph) (x : List Bool) (u c : ℕ) → IsCell g x u u c → c ≡ 0
own-exact g x u c cell =
    ⊎_elim
    (λ near. distance-unique g x u u c 0 (cell.near near) (distance-self g x u))
    (λ far. absurd (cell.far far [] refl))
    (cases_lt c FAR)

-- a row from a node u that is exact
module _ (g : Graph) (graph : IsGraph g) (x : List Bool) (u : ℕ) (cells : List ℕ) (row : IsRow g x u cells) where
  last-met : (w c : ℕ) (q : List ℕ) (l : ℕ) → c < FAR → IsDistance g x u w c → IsWalk g x u (q ++ l ∷ []) w → cost g (q ++ l ∷ []) ≡ c → (k : ℕ) × Reaches g (From u) w k × Serves g x (From u) k × (offer_at g (From u) cells k ≡ c)
  last-met w c q l near d a sum =
      let s : IsShortest g x u (q ++ l ∷ []) w = IsShortest-from_cost g x u w c (q ++ l ∷ []) d a sum in
      let t = shortest-cut g x u q (l ∷ []) w s in
      let link : IsLink g (link_at g l) = graph.each l t.2.0.0 in
      let begins : tail g l ≡ t.0 = t.2.0.2 in
      let carry = (OnShortest-carries g x u w l (record { before = q; after = []; shortest = s })).0 in
      let first : IsDistance g x u (tail g l) (cost g q) = rw begins (distance-from_shortest g x u t.0 q t.1) in
      let same : slice_index cells (tail g l) ≡ cost g q = cell-distance g x u (tail g l) _ _ (row.each (tail g l) link.0) first (omega (arith, cost-append g q (l ∷ []))) in
      (l, t.2.0.3, record { within = t.2.0.0; outside = t.2.0.1; carry = carry }, omega (arith, cost-append g q (l ∷ [])))

  from-met : (w c : ℕ) → w ≢ u → c < FAR → IsDistance g x u w c → (k : ℕ) × Reaches g (From u) w k × Serves g x (From u) k × (offer_at g (From u) cells k ≡ c)
  from-met w c ne near d =
      ⊎_elim
      (λ e. absurd (ne (let here : u ≡ w = subst (λ p. IsWalk g x u p w) e d.reached.1 in sym here)))
      (λ r. last-met w c r.0 r.1 near d (subst (λ p. IsWalk g x u p w) r.2 d.reached.1) (sym (ap (λ p. cost g p) r.2) ∙ d.reached.2))
      (last-cut d.reached.0)

  from-settled : AreToldByLinks g x (From u) cells
  from-settled w within =
      ⊎_elim
      (λ (e : w ≡ u). inl (e, rw e (own-exact g x u _ (row.each u (rw (← e) within)))))
      (λ (ne : w ≢ u). inr (
        ne,
        record {
          top = (row.each w within).top;
          least = λ l leads serves. rw (← leads) (row-stable g x u cells graph row l serves.within serves.outside serves.carry);
          met = λ near. from-met w (slice_index cells w) ne near ((row.each w within).near near);
        },
      ))
      (cases_eq w u)

-- a row to a node v that is exact
module _ (g : Graph) (graph : IsGraph g) (x : List Bool) (v : ℕ) (cells : List ℕ) (row : IsRowTo g x v cells) where
  to-least : (l : ℕ) → Serves g x (To v) l → slice_index cells (tail g l) ≤ slice_index cells (head g l) + metric g l
  to-least l serves =
      let link : IsLink g (link_at g l) = graph.each l serves.within in
      ⊎_elim
      (λ near.
      let r = walk-out g x (head g l) v _ serves.carry ((row.each (head g l) link.1).near near) in
      let a : IsWalk g x (tail g l) (l ∷ r.0) v = (serves.within, serves.outside, refl, r.1, r.3) in
      ⊎_elim
      (λ near'. let le : slice_index cells (tail g l) ≤ cost g (l ∷ r.0) = ((row.each (tail g l) link.0).near near').least (l ∷ r.0) a in omega (arith, r.2))
      (λ far. absurd ((row.each (tail g l) link.0).far far (l ∷ r.0) a))
      (cases_lt (slice_index cells (tail g l)) FAR))
      (λ far. let top : slice_index cells (tail g l) ≤ FAR = (row.each (tail g l) link.0).top in omega arith)
      (cases_lt (slice_index cells (head g l)) FAR)

  first-met : (w c : ℕ) (p : List ℕ) → w ≢ v → c < FAR → IsDistance g x w v c → IsWalk g x w p v → cost g p ≡ c → (k : ℕ) × Reaches g (To v) w k × Serves g x (To v) k × (offer_at g (To v) cells k ≡ c)
  first-met w c [] ne near d a sum = absurd (ne a)
  first-met w c (l ∷ p) ne near d a sum =
      let s : IsShortest g x w (l ∷ p) v = IsShortest-from_cost g x w v c (l ∷ p) d a sum in
      let t = shortest-cut g x w (l ∷ []) p v s in
      let link : IsLink g (link_at g l) = graph.each l a.0 in
      let ends : head g l ≡ t.0 = t.1.0.3 in
      let rest : IsDistance g x (head g l) v (cost g p) = rw ends (distance-from_shortest g x t.0 v p t.2) in
      let same : slice_index cells (head g l) ≡ cost g p = cell-distance g x (head g l) v _ _ (row.each (head g l) link.1) rest (omega arith) in
      (l, a.2, record { within = a.0; outside = a.1; carry = passes-carries g x (head g l) p v a.3 a.4 }, omega arith)

  to-settled : AreToldByLinks g x (To v) cells
  to-settled w within =
      ⊎_elim
      (λ (e : w ≡ v). inl (e, rw e (own-exact g x v _ (row.each v (rw (← e) within)))))
      (λ (ne : w ≢ v). inr (
        ne,
        record {
          top = (row.each w within).top;
          least = λ l leads serves. rw (← leads) (to-least l serves);
          met = λ near.
              let d : IsDistance g x w v (slice_index cells w) = (row.each w within).near near in
              first-met w (slice_index cells w) d.reached.0 ne near d d.reached.1 d.reached.2;
        },
      ))
      (cases_eq w v)

-- a row is exact where each cell is settled, and only there
pub exact-settled : (g : Graph) (x : List Bool) (h : Heading) (cells : List ℕ) → IsGraph g → base h < node_count g → length cells ≡ node_count g → AreToldByLinks g x h cells ↔ IsExactWithout g x h cells
exact-settled g x (From u) cells graph within long = (λ all. from-exact g graph x u within cells all long, λ row. from-settled g graph x u cells row)
exact-settled g x (To v) cells graph within long = (λ all. to-exact g graph x v within cells all long, λ row. to-settled g graph x v cells row)
