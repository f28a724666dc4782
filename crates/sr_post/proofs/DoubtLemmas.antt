-- Towards which nodes a next hop that hasn't failed leads for sure.
use Rattle.std.proofs.Common.{◌≡◌, ℕ, ◌+◌, ◌<◌, ◌≤◌, ⊎_elim, Bool, true, ◌==◌, List, [], ◌∷◌, ◌++◌, append_assoc, length, arith, sym, ◌∙◌, subst}
use Rattle.std.specs.Prelude.{nat_lt, slice_index}
use Rattle.std.proofs.lemmas.Bool.{cases_lt, true≢false, and_from, lt-ltb, eq-eqb}
use Rattle.sr_lanes.specs.declared.words.NodeBits.{NodeBits}
use Rattle.sr_lanes.specs.Bits.{is_in}
use Rattle.sr_lanes.specs.Passes.{is_tight}
use Rattle.sr_model.specs.declared.link.TheConstants.{FAR}
use Rattle.sr_model.specs.Case.{Touches}
use Rattle.sr_model.specs.Graph.{Graph, IsGraph, IsLink, carries, has, head, link_at, link_count, metric, node_count, tail}
use Rattle.sr_model.specs.Walk.{IsDistance, IsNextHop, IsRow, IsShortest, Passes, cost}
use Rattle.sr_walks.proofs.Walks.{carries-cases, cost-append, passes-carries, walk-within}
use Rattle.sr_walks.proofs.Distances.{distance-from_shortest, distance-unique, shortest-cut, InP-from_none}
use Rattle.sr_post.specs.Kept.{LieAt, AreDoubtful}
use Rattle.sr_post.proofs.SourceLemmas.{kept-at_source}

-- where each failed link lies at the source, there is no doubt
pub sure-at_source : (g : Graph) (x : List Bool) (s : ℕ) (set : NodeBits) → IsGraph g → LieAt g x s → AreDoubtful g x s set
sure-at_source g x s set graph lie = record { sure = λ v h out hop outside. kept-at_source g x s v h graph lie outside hop }

-- a shortest walk goes on from where it begins
passes-shortest : (g : Graph) (w v : ℕ) (p : List ℕ) → IsGraph g → IsShortest g [] w p v → carries g v w ≡ true → Passes g w p
passes-shortest g w v [] graph short carry = tt
passes-shortest g w v (l ∷ q) graph short carry =
    ⊎_elim
    (λ (e : w ≡ v).
    let le : cost g (l ∷ q) ≤ cost g [] = short.1 [] e in
    let k : IsLink g (link_at g l) = graph.each l short.0.0 in
    let some : 0 < metric g l = k.2 in
    absurd (omega (arith, le, some)))
    (λ clear. clear)
    (carries-cases g v w carry)

-- behind a next hop each shortest walk is the rest of one
shortest-over : (g : Graph) (s v h : ℕ) (p : List ℕ) → IsGraph g → IsNextHop g [] s v h → IsShortest g [] (head g h) p v → IsShortest g [] s (h ∷ p) v
shortest-over g s v h p graph hop short =
    let walk = hop.shortest.0 in
    let carry : carries g v (head g h) ≡ true = passes-carries g [] (head g h) hop.more v walk.3 walk.4 in
    let le : cost g p ≤ cost g hop.more = short.1 hop.more walk.3 in (
      (walk.0, walk.1, walk.2, short.0, passes-shortest g (head g h) v p graph short carry),
      λ q b. let least : cost g (h ∷ hop.more) ≤ cost g q = hop.shortest.1 q b in omega (arith, le, least),
    )

-- a row has the distance
row-has : (g : Graph) (u v c : ℕ) (row : List ℕ) → IsRow g [] u row → v < node_count g → IsDistance g [] u v c → slice_index row v ≡ c
row-has g u v c row is inside d =
    ⊎_elim
    (λ (near : slice_index row v < FAR). distance-unique g [] u v _ c ((is.each v inside).near near) d)
    (λ (far : FAR ≤ slice_index row v). absurd ((is.each v inside).far far d.reached.0 d.reached.1))
    (cases_lt (slice_index row v) FAR)

module _ (g : Graph) (s f : ℕ) (row over : List ℕ) (graph : IsGraph g) (begin : IsRow g [] s row) (end : IsRow g [] f over) (s_in : s < node_count g) (f_in : f < node_count g) where
  -- where a shortest walk reaches node f, the distances by f add up
  sum-over : (p q : List ℕ) (v : ℕ) → v < node_count g → IsShortest g [] s (p ++ q) v → IsShortest g [] s p f → IsShortest g [] f q v → slice_index row f + slice_index over v ≡ slice_index row v
  sum-over p q v inside whole front back =
      let a : slice_index row f ≡ cost g p = row-has g s f (cost g p) row begin f_in (distance-from_shortest g [] s f p front) in
      let b : slice_index over v ≡ cost g q = row-has g f v (cost g q) over end inside (distance-from_shortest g [] f v q back) in
      let c : slice_index row v ≡ cost g (p ++ q) = row-has g s v (cost g (p ++ q)) row begin inside (distance-from_shortest g [] s v (p ++ q) whole) in
      omega (arith, a, b, c, cost-append g p q)

  -- so it is where a link of the walk begins or ends at f
  sum-touching : (p q : List ℕ) (k v : ℕ) → v < node_count g → IsShortest g [] s (p ++ k ∷ q) v → Touches g k f → slice_index row f + slice_index over v ≡ slice_index row v
  sum-touching p q k v inside whole touch =
      ⊎_elim
      (λ (begins : tail g k ≡ f).
      let cut = shortest-cut g [] s p (k ∷ q) v whole in
      let here : cut.0 ≡ f = sym cut.2.0.2 ∙ begins in
      sum-over p (k ∷ q) v inside whole (subst (λ w. IsShortest g [] s p w) here cut.1) (subst (λ w. IsShortest g [] w (k ∷ q) v) here cut.2))
      (λ (ends : head g k ≡ f).
      let same : p ++ k ∷ q ≡ (p ++ k ∷ []) ++ q = sym (append_assoc p (k ∷ []) q) in
      let moved : IsShortest g [] s ((p ++ k ∷ []) ++ q) v = subst (λ r. IsShortest g [] s r v) same whole in
      let cut = shortest-cut g [] s (p ++ k ∷ []) q v moved in
      let last = shortest-cut g [] s p (k ∷ []) cut.0 cut.1 in
      let here : cut.0 ≡ f = sym last.2.0.3 ∙ ends in
      sum-over (p ++ k ∷ []) q v inside moved (subst (λ w. IsShortest g [] s (p ++ k ∷ []) w) here cut.1) (subst (λ w. IsShortest g [] w q v) here cut.2))
      touch

  -- where the links at f fail, a next hop leads for sure to what isn't over f
  pub sure-around : (x : List Bool) (set : NodeBits) → ((l : ℕ) → l < link_count g → has x l ≡ true → Touches g l f) → ((v : ℕ) → is_in set v ≡ is_tight row (slice_index row f) over v) → AreDoubtful g x s set
  sure-around x set around tight = record {
    sure = λ v h out hop outside.
        let inside : v < node_count g = walk-within g [] s (h ∷ hop.more) v graph s_in hop.shortest.0 in
        record {
          outside = outside;
          hop = hop;
          space = InP-from_none g x (head g h) v hop.more hop.shortest.0.3 (λ k kw failed on.
              let whole : IsShortest g [] s (h ∷ (on.before ++ k ∷ on.after)) v = shortest-over g s v h (on.before ++ k ∷ on.after) graph hop on.shortest in
              let sum : slice_index row f + slice_index over v ≡ slice_index row v = sum-touching (h ∷ on.before) on.after k v inside whole (around k kw failed) in
              let lt : nat_lt v (length row) ≡ true = lt-ltb v (length row) (omega (arith, begin.long)) in
              let yes : is_in set v ≡ true = tight v ∙ and_from (nat_lt v (length row)) (slice_index row f + slice_index over v == slice_index row v) lt (eq-eqb (slice_index row f + slice_index over v) (slice_index row v) sum) in
              true≢false (sym yes ∙ out));
        };
  }
