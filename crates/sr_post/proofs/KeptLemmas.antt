-- The nodes that keep their distance in a failure: a way leads to each along them.
use Rattle.std.proofs.Common.{◌≡◌, ℕ, ◌+◌, ◌<◌, ◌≤◌, ◌⊎◌, ⊎_elim, inl, inr, Bool, true, false, List, [], ◌∷◌, ◌++◌, length, refl, arith, ap, sym, ◌∙◌, subst, get_or}
use Rattle.std.specs.Prelude.{Contains, slice_index, if◌then◌else◌}
use Rattle.std.proofs.lemmas.Bool.{cases_eq, cases_lt, cases_Bool}
use Rattle.std.proofs.lemmas.List.{length-append, get_or_push, get_or_past, get_or_default}
use Rattle.sr_model.specs.Graph.{Graph, IsGraph, IsLink, carries, has, head, is_overloaded, link_at, link_count, metric, node_count, tail}
use Rattle.sr_model.specs.Walk.{IsDistance, IsRow, IsShortest, IsWalk, Passes, cost}
use Rattle.sr_model.specs.Space.{InP, Avoids}
use Rattle.sr_model.specs.declared.link.NodeNo.{NodeNo}
use Rattle.sr_model.specs.declared.link.TheConstants.{FAR}
use Rattle.sr_walks.proofs.Walks.{IsWalk-append, cost-append, carries-same, carries-clear}
use Rattle.sr_walks.proofs.Distances.{cell-distance, distance-from_shortest, distance-self, distance-unique, shortest-cut}
use Rattle.sr_walks.proofs.Rows.{row-stable}
use Rattle.sr_spf.specs.Begun.{HasWay, IsBegun}
use Rattle.sr_lanes.specs.declared.words.NodeBits.{NodeBits}
use Rattle.sr_lanes.specs.Bits.{is_in}
use Rattle.sr_post.specs.Kept.{LeadsTo, IsKept, AreLost}
use Rattle.sr_spf.specs.Nodes.{AreThose, listed_at}
use Rattle.sr_spf.specs.Lost.{AreCellsWithout}
use Rattle.sr_spf.proofs.NodeLemmas.{listed-contains}
use Rattle.sr_post.specs.Sets.{AreKeptCells}
use Rattle.sr_seq.proofs.ListLemmas.{last-cut}
use Rattle.sr_walks.proofs.Walks.{avoids-left}

avoids-last : (x : List Bool) (p : List ℕ) (l : ℕ) → Avoids x (p ++ l ∷ []) → has x l ≡ false
avoids-last x p l a = subst (λ k. has x k ≡ false) (get_or_push p l 0 (length p) refl) (a (length p) 0 (omega (arith, length-append p (l ∷ []))))

-- before v on a way from s along nodes that are kept: link k outside x ends at v, and its beginning is kept
pub record IsKeptBefore (g : Graph) (x : List Bool) (s v k : ℕ) : Type 0 where
  pub within : k < link_count g
  pub outside : has x k ≡ false
  pub carry : carries g s (tail g k) ≡ true
  pub ends : head g k ≡ v
  pub from : IsKept g x s (tail g k)
  pub cost : ℕ
  pub to : IsDistance g [] s (tail g k) cost
  pub whole : IsDistance g [] s v (cost + metric g k)

module _ (g : Graph) (x : List Bool) (s : ℕ) where
  -- the link leads to v itself
  before_one : (l v : ℕ) → has x l ≡ false → IsShortest g [] s (l ∷ []) v → IsKeptBefore g x s v l
  before_one l v outside short = record {
    within = short.0.0;
    outside = outside;
    carry = carries-same g s (tail g l) short.0.2;
    ends = short.0.3;
    from = inl short.0.2;
    cost = 0;
    to = subst (λ u. IsDistance g [] s u 0) (sym short.0.2) (distance-self g [] s);
    whole = subst (λ c. IsDistance g [] s v c) (omega arith) (distance-from_shortest g [] s v (l ∷ []) short);
  }

  -- P of a node holds the beginnings of the walks to its nodes
  space_before : (u w : ℕ) (init : List ℕ) (k v : ℕ) → InP g x u v → IsShortest g [] u (init ++ k ∷ []) v → IsWalk g [] u init w → IsWalk g [] w (k ∷ []) v → is_overloaded g w ≡ false → InP g x u w
  space_before u w init k v space short first last clear = record {
    reached = (init, first);
    avoids = λ p is.
        let le : cost g p ≤ cost g init = is.1 init first in
        let longer : IsWalk g [] u (p ++ k ∷ []) v = IsWalk-append g [] u p w (k ∷ []) v is.0 last clear in
        avoids-left x p (k ∷ []) (space.avoids (p ++ k ∷ []) (longer, λ q b. let most : cost g (init ++ k ∷ []) ≤ cost g q = short.1 q b in omega (arith, cost-append g init (k ∷ []), cost-append g p (k ∷ []))));
  }

  -- the link leads on, and link k is the last
  before_more : (l v : ℕ) (init : List ℕ) (k : ℕ) → has x l ≡ false → IsShortest g [] s (l ∷ (init ++ k ∷ [])) v → InP g x (head g l) v → IsKeptBefore g x s v k
  before_more l v init k outside short space =
      let end = shortest-cut g [] s (l ∷ init) (k ∷ []) v short in
      let begin = shortest-cut g [] s (l ∷ []) (init ++ k ∷ []) v short in
      let w : ℕ = end.0 in
      let clear : is_overloaded g w ≡ false = ⊎_elim (λ (e : l ∷ init ≡ []). absurd (cc)) (λ (pass : Passes g w (k ∷ [])). pass) end.3 in
      let at : tail g k ≡ w = end.2.0.2 in
      let rest : IsShortest g [] (head g l) (init ++ k ∷ []) v = subst (λ u. IsShortest g [] u (init ++ k ∷ []) v) (sym begin.1.0.3) begin.2 in
      let before : InP g x (head g l) w = space_before (head g l) w init k v space rest end.1.0.3 end.2.0 clear in
      let leads : LeadsTo g x s w l = record { outside = outside; hop = record { more = init; shortest = end.1 }; space = before } in
      let kept : IsKept g x s w = inr (l, leads) in
      record {
        within = end.2.0.0;
        outside = avoids-last x init k (space.avoids (init ++ k ∷ []) rest);
        carry = carries-clear g s (tail g k) (rw at clear);
        ends = end.2.0.3;
        from = subst (λ u. IsKept g x s u) (sym at) kept;
        cost = cost g (l ∷ init);
        to = subst (λ u. IsDistance g [] s u (cost g (l ∷ init))) (sym at) (distance-from_shortest g [] s w (l ∷ init) end.1);
        whole = subst (λ c. IsDistance g [] s v c) (omega (arith, cost-append g init (k ∷ []))) (distance-from_shortest g [] s v (l ∷ (init ++ k ∷ [])) short);
      }

  -- a node that is kept is s, or a link from a node that is kept leads there
  pub kept-before : (v : ℕ) → IsKept g x s v → (v ≡ s) ⊎ ((k : ℕ) × IsKeptBefore g x s v k)
  kept-before v kept =
      ⊎_elim
      (λ (e : v ≡ s). inl e)
      (λ (c : (l : ℕ) × LeadsTo g x s v l).
      let l : ℕ = c.0 in
      let leads : LeadsTo g x s v l = c.1 in
      ⊎_elim
      (λ (e : leads.hop.more ≡ []). inr (l, before_one l v leads.outside (subst (λ p. IsShortest g [] s (l ∷ p) v) e leads.hop.shortest)))
      (λ (r : (q : List ℕ) × (k : ℕ) × (leads.hop.more ≡ q ++ k ∷ [])). inr (r.1, before_more l v r.0 r.1 leads.outside (subst (λ p. IsShortest g [] s (l ∷ p) v) r.2 leads.hop.shortest) leads.space))
      (last-cut leads.hop.more))
      kept

-- s reaches a node that is kept
kept_walk : (g : Graph) (x : List Bool) (s v : ℕ) → IsKept g x s v → (p : List ℕ) × IsWalk g [] s p v
kept_walk g x s v kept =
    ⊎_elim
    (λ (e : v ≡ s). ([], sym e))
    (λ (c : (l : ℕ) × LeadsTo g x s v l). let leads : LeadsTo g x s v c.0 = c.1 in (c.0 ∷ leads.hop.more, leads.hop.shortest.0))
    kept

-- it is so where the lost nodes have FAR, and are listed
pub kept-cells : (g : Graph) (x : List Bool) (s : ℕ) (row cells : List ℕ) (nodes : List NodeNo) (lost : NodeBits) → IsGraph g → length row ≡ node_count g → AreLost g x s lost → AreCellsWithout row lost cells → AreThose (λ v. is_in lost v ≡ true) 256 nodes → AreKeptCells g x s row cells nodes
kept-cells g x s row cells nodes lost graph long are clear those = record {
  long = omega (arith, clear.long);
  each = λ v lt. ⊎_elim
      (λ (yes : is_in lost v ≡ true).
      inr (
        λ kept. ⊎_elim (λ (e : v ≡ s). (are.within v yes).1 e) (λ (c : (l : ℕ) × LeadsTo g x s v l). are.lost v c.0 yes c.1) kept,
        clear.each v ∙ ap (λ t. if t then FAR else slice_index row v) yes,
        listed-contains (λ u. is_in lost u ≡ true) 256 nodes v those (omega (arith, graph.few_nodes)) yes,
      ))
      (λ (no : is_in lost v ≡ false).
      inl (
        ⊎_elim (λ (e : v ≡ s). inl e) (λ ne. inr (are.led v lt ne no)) (cases_eq v s),
        clear.each v ∙ ap (λ t. if t then FAR else slice_index row v) no,
      ))
      (cases_Bool (is_in lost v));
  nodes = λ k d lt.
      let within : listed_at nodes k < node_count g = (are.within (listed_at nodes k) (those.each k lt).1).0 in
      subst (λ (node : NodeNo). node.0 < node_count g) (get_or_default nodes k (record { 0 = 0 }) d lt) within;
  gone = λ j lt kept.
      let yes : is_in lost (listed_at nodes j) ≡ true = (those.each j lt).1 in
      ⊎_elim (λ (e : listed_at nodes j ≡ s). (are.within (listed_at nodes j) yes).1 e) (λ (c : (l : ℕ) × LeadsTo g x s (listed_at nodes j) l). are.lost (listed_at nodes j) c.0 yes c.1) kept;
}

module _ (g : Graph) (x : List Bool) (s : ℕ) (row cells : List ℕ) (lost : List NodeNo) (graph : IsGraph g) (within : s < node_count g) (is : IsRow g [] s row) (h : AreKeptCells g x s row cells lost) where
  -- where there is a cell it is that of the row
  near_kept : (v : ℕ) → v < node_count g → slice_index cells v < FAR → IsKept g x s v × (slice_index cells v ≡ slice_index row v)
  near_kept v v_in near = ⊎_elim (λ a. a) (λ b. absurd (omega (arith, b.1))) (h.each v v_in)

  kept_cell : (v : ℕ) → v < node_count g → IsKept g x s v → slice_index cells v ≡ slice_index row v
  kept_cell v v_in kept = ⊎_elim (λ a. a.1) (λ b. absurd (b.0 kept)) (h.each v v_in)

  own : slice_index row s ≡ 0
  own = cell-distance g [] s s (slice_index row s) 0 (is.each s within) (distance-self g [] s) (omega arith)

  way_to : (v : ℕ) → v < node_count g → slice_index cells v < FAR → HasWay g x s cells v
  way_to v v_in near =
      let kept : IsKept g x s v × (slice_index cells v ≡ slice_index row v) = near_kept v v_in near in
      ⊎_elim
      (λ (e : v ≡ s). inl e)
      (λ (b : (k : ℕ) × IsKeptBefore g x s v k).
      let k : ℕ = b.0 in
      let before : IsKeptBefore g x s v k = b.1 in
      let ends : IsLink g (link_at g k) = graph.each k before.within in
      let whole : slice_index row v ≡ before.cost + metric g k = distance-unique g [] s v _ _ ((is.each v v_in).near (omega (arith, kept.1))) before.whole in
      let front : slice_index row (tail g k) ≡ before.cost = cell-distance g [] s (tail g k) (slice_index row (tail g k)) before.cost (is.each (tail g k) ends.0) before.to (omega (arith, kept.1)) in
      let cell : slice_index cells (tail g k) ≡ slice_index row (tail g k) = kept_cell (tail g k) ends.0 before.from in
      inr (k, before.within, before.outside, before.carry, omega (arith, kept.1), before.ends, omega (arith, kept.1)))
      (kept-before g x s v kept.0)

  pub kept-begun : IsBegun g x s cells lost
  kept-begun = record {
    graph = graph;
    long = h.long;
    within = within;
    source = let e : slice_index cells s ≡ slice_index row s = kept_cell s within (inl refl) in e ∙ own;
    top = λ v. ⊎_elim
        (λ (inside : v < node_count g). ⊎_elim
        (λ a. let most : slice_index row v ≤ FAR = (is.each v inside).top in omega (arith, a.1))
        (λ b. omega (arith, b.1))
        (h.each v inside))
        (λ (past : node_count g ≤ v). let none : slice_index cells v ≡ 0 = get_or_past cells v 0 (omega (arith, h.long)) in omega arith)
        (cases_lt v (node_count g));
    ways = way_to;
    listed = λ v inside far. ⊎_elim
        (λ a. let p = kept_walk g x s v a.0 in absurd ((is.each v inside).far (omega (arith, a.1)) p.0 p.1))
        (λ b. b.2)
        (h.each v inside);
    nodes = h.nodes;
    stable = λ l l_in outside carry near ahead.
        let ends : IsLink g (link_at g l) = graph.each l l_in in
        let from : slice_index cells (tail g l) ≡ slice_index row (tail g l) = (near_kept (tail g l) ends.0 near).1 in
        let to : slice_index cells (head g l) ≡ slice_index row (head g l) = (near_kept (head g l) ends.1 ahead).1 in
        let most : slice_index row (head g l) ≤ slice_index row (tail g l) + metric g l = row-stable g [] s row graph is l l_in refl carry in
        omega arith;
  }
