-- Kept trees and kept cases: rows, next hops, affected destinations and answers are those of the new net, by key.
use Rattle.std.proofs.Common.{◌≡◌, ◌≢◌, ℕ, ◌+◌, ◌<◌, ◌≤◌, ◌⊎◌, ⊎_elim, inl, inr, Bool, List, [], ◌∷◌, ◌++◌, length, refl, arith, ap, sym, ◌∙◌, subst}
use Rattle.std.specs.Prelude.{slice_index, ◌↔◌}
use Rattle.std.proofs.lemmas.Bool.{cases_lt, cases_eq}
use Rattle.sr_model.specs.declared.case.Case.{Case}
use Rattle.sr_model.specs.declared.link.LinkNo.{LinkNo}
use Rattle.sr_model.specs.declared.link.TheConstants.{FAR}
use Rattle.sr_model.specs.declared.repair.Segment.{Segment}
use Rattle.sr_model.specs.declared.repair.Segment.TheVariants.{Node, Adj}
use Rattle.sr_model.specs.declared.repair.RepairList.{RepairList}
use Rattle.sr_model.specs.declared.repair.Answer.{Answer}
use Rattle.sr_model.specs.declared.repair.Answer.TheVariants.{Least, NoPath, NoList, TooDeep}
use Rattle.sr_model.specs.Key.{KeyLt}
use Rattle.sr_model.specs.Graph.{Graph, node_count, link_count, link_at, tail, head, metric, IsGraph, IsLink, IsNamed}
use Rattle.sr_model.specs.Walk.{IsOnWay, IsWalk, cost, IsDistance, IsNextHop, IsRow}
use Rattle.sr_model.specs.Case.{Touches, IsAffected, key_at, IsFailedSet, IsOutside, source_of}
use Rattle.sr_model.specs.Label.{Net}
use Rattle.sr_model.specs.Rule.{IsNet}
use Rattle.sr_model.specs.Repair.{Fits, path_of, IsAnswer, IsCaseAnswer, IsLeast}
use Rattle.sr_model.specs.Stay.{HaveSameName, HaveSamePairs, IsKeptTree, HasSameDepth, IsKeptCase, case_with, AreSegmentsSame, IsSameAnswer, IsSameList}
use Rattle.sr_walks.proofs.Walks.{IsWalk-append, cost-append, Begins, begins-self}
use Rattle.sr_walks.proofs.Distances.{distance-self, distance-from_shortest, IsShortest-from_cost, walk-into}
use Rattle.sr_laws.proofs.Keys.{KeyLt-trans, KeyLt-irrefl, key-one, nodes-same, name-ends, pairs-agree, IsPairSet}
use Rattle.sr_walks.proofs.Rows.{Keeps, AreLike, AgreeOnLoad, agree-sym, way-kept, row-one, row-stays}
use Rattle.sr_laws.specs.Listed.{IsCaseListed, IsListed}
use Rattle.sr_laws.specs.Steady.{IsSameFar, IsSteadyCase, KeepsStep, pivot_of}
use Rattle.sr_laws.proofs.Pivots.{far-sym, lie-at_pivot, pivot-by_ends, pivot-known, pivot-within, step-by_pivot}
use Rattle.sr_laws.proofs.KeptLists.{in_row, step-by_tree, TreeStays, tree-sym, OnWay, Stays, AreSegmentsAlike}
use Rattle.sr_laws.proofs.KeptOrder.{Ordered, length-alike, least-kept, none-kept}
use Rattle.sr_laws.proofs.Failures.{failed-one, failed-pairs}
use Rattle.sr_laws.proofs.Changes.{AreVersions, NamesAgree, keeps-there, keeps-back}
use Rattle.sr_laws.proofs.Answers.{answer-one, listed-one}
use Rattle.sr_laws.proofs.Parts.{link_is}

pub nothing-pairs : (g : Graph) → IsPairSet g []
nothing-pairs g l k lw kw pair is = absurd {0} (cc)

pub nothing-same : (g h : Graph) → HaveSamePairs g [] h []
nothing-same g h = record { there = λ l lw is. absurd {0} (cc); back = λ k kw is. absurd {0} (cc) }

-- a tree that stays has the same distances in both graphs
abbrev pub kept-tree : (g h : Graph) → AreVersions g h → (u : ℕ) → u < node_count g → IsKeptTree g h u → TreeStays g h u
kept-tree g h v u within t =
    let there : Keeps g [] h [] t.cells = keeps-there g h v [] [] t.cells (nothing-pairs g) (λ l k is. refl) (λ key changed free. t.idle key changed) in
    let back : Keeps h [] g [] t.cells = keeps-back g h v [] [] t.cells (nothing-pairs h) (λ l k is. refl) (nothing-same g h) (λ key changed free. t.idle key changed) in
    record {
      cells = t.cells;
      old = t.row;
      new = row-stays g [] h [] u t.cells v.old (nodes-same g h v.same) within t.row there back v.same.overloaded;
      there = there;
      back = back;
    }

hop_at : (g h : Graph) (u w e : ℕ) (l : ℕ) (p q : List ℕ) → IsDistance h [] u w e → IsWalk h [] u q w → cost h q ≡ e → AreLike g h (l ∷ p) q → (k : ℕ) × (k < link_count h) × (link_at h k ≡ link_at g l) × IsNextHop h [] u w k
hop_at g h u w e l p [] d a c like = absurd like
hop_at g h u w e l p (k ∷ q) d a c like = (k, a.0, like.0, record { more = q; shortest = IsShortest-from_cost h [] u w e (k ∷ q) d a c })

-- and the same next hops
pub hop-stays : (g h : Graph) → IsGraph g → AgreeOnLoad g h → node_count h ≡ node_count g → (u w l : ℕ) → u < node_count g → w < node_count g → TreeStays g h u → IsNextHop g [] u w l → (k : ℕ) × (k < link_count h) × (link_at h k ≡ link_at g l) × IsNextHop h [] u w k
hop-stays g h graph load nodes u w l at within t hop =
    let d : IsDistance g [] u w (cost g (l ∷ hop.more)) = distance-from_shortest g [] u w (l ∷ hop.more) hop.shortest in
    let to : (slice_index t.cells w < FAR) × (slice_index t.cells w ≡ cost g (l ∷ hop.more)) = in_row g [] u w _ t.cells t.old within d in
    let own : (slice_index t.cells u < FAR) × (slice_index t.cells u ≡ 0) = in_row g [] u u 0 t.cells t.old at (distance-self g [] u) in
    let new : IsDistance h [] u w (slice_index t.cells w) = (t.new.each w (omega (arith, nodes))).near to.0 in
    let r = way-kept g [] h [] u t.cells graph t.old t.there load u (l ∷ hop.more) w hop.shortest.0 (begins-self g u (l ∷ hop.more)) own.0 (omega (arith, own.1, to.1)) in
    hop_at g h u w (slice_index t.cells w) l hop.more r.0 new r.1 (r.2 ∙ sym to.1) r.3

-- a node whose sums are right stands on a shortest walk
pub on-way : (g : Graph) (x : List Bool) (s d w : ℕ) → OnWay g x s d w → IsOnWay g x s d w
on-way g x s d w o = at o.from.0 o.from.1 o.from.2 o.from.3 where
  at : (p : List ℕ) → IsWalk g x w p d → cost g p ≡ o.rest → Begins g s w p → IsOnWay g x s d w
  at [] a c b = record {
    before = o.to.reached.0;
    after = [];
    to = o.to.reached.1;
    from = a;
    shortest = IsShortest-from_cost g x s d (o.far + o.rest) (o.to.reached.0 ++ []) o.whole (IsWalk-append g x s o.to.reached.0 w [] d o.to.reached.1 a tt) (omega (arith, cost-append g o.to.reached.0 [], o.to.reached.2));
  }
  at (l ∷ p) a c b =
      let r = walk-into g x s w o.far b o.to in
      record {
        before = r.0;
        after = l ∷ p;
        to = r.1;
        from = a;
        shortest = IsShortest-from_cost g x s d (o.far + o.rest) (r.0 ++ l ∷ p) o.whole (r.3 (l ∷ p) d a) (omega (arith, cost-append g r.0 (l ∷ p), r.2));
      }

-- links by key stand in one order
pub names-ordered : (g h : Graph) → IsNamed g → IsNamed h → Ordered g h
names-ordered g h ng nh = record {
  up = λ l k l' k' p q lt.
      let low : KeyLt (key_at h k) (key_at h k') = subst (λ j. KeyLt j (key_at h k')) (ap (λ j. j.key) (sym p.2)) (subst (λ j. KeyLt (key_at g l) j) (ap (λ j. j.key) (sym q.2)) (ng.keys l l' lt q.0)) in
      ⊎_elim
      (λ up. up)
      (λ ge. ⊎_elim
      (λ (e : k ≡ k'). absurd (KeyLt-irrefl (key_at h k') (subst (λ j. KeyLt (key_at h j) (key_at h k')) e low)))
      (λ (ne : k ≢ k'). absurd (KeyLt-irrefl (key_at h k) (KeyLt-trans (key_at h k) (key_at h k') (key_at h k) low (nh.keys k' k (omega arith) p.1))))
      (cases_eq k k'))
      (cases_lt k k');
  one = λ l k k' p q. key-one h nh k k' p.1 q.1 (ap (λ j. j.key) (p.2 ∙ sym q.2));
}

segments-same : (g h : Graph) (ss ts : List Segment) → AreSegmentsAlike g h ss ts → AreSegmentsSame g h ss ts
segments-same g h [] ts a = a
segments-same g h (Node v ∷ ss) [] a = absurd a
segments-same g h (Node v ∷ ss) (Node w ∷ ts) a = (a.0, segments-same g h ss ts a.1)
segments-same g h (Node v ∷ ss) (Adj k ∷ ts) a = absurd a
segments-same g h (Adj l ∷ ss) [] a = absurd a
segments-same g h (Adj l ∷ ss) (Node w ∷ ts) a = absurd a
segments-same g h (Adj l ∷ ss) (Adj k ∷ ts) a = ((a.0.0, a.0.1, ap (λ j. j.key) a.0.2), segments-same g h ss ts a.1)

fits-there : (n m : Net) (s k : ℕ) → HasSameDepth n m s → Fits n s k → Fits m s k
fits-there n m s k same f =
    ⊎_elim
    (λ some. let f' : k + 1 ≤ some.0 = rw some.1 at f in rw some.2 f')
    (λ none. let f' : k ≤ n.depth = rw none.0 at f in rw none.1 (omega (arith, none.2)))
    same

fits-back : (n m : Net) (s k : ℕ) → HasSameDepth n m s → Fits m s k → Fits n s k
fits-back n m s k same f =
    ⊎_elim
    (λ some. let f' : k + 1 ≤ some.0 = rw some.2 at f in rw some.1 f')
    (λ none. let f' : k ≤ m.depth = rw none.1 at f in rw none.0 (omega (arith, none.2)))
    same

module _ (n m : Net) (case : Case) (nn : IsNet n) (nm : IsNet m) (c : IsKeptCase n m case) where
  v : AreVersions n.graph m.graph
  v = record { old = nn.graph; new = nm.graph; named = nn.named; named' = nm.named; same = c.nodes }

  nodes_at : node_count m.graph ≡ node_count n.graph
  nodes_at = nodes-same n.graph m.graph c.nodes

  source_in : tail n.graph case.link.0 < node_count n.graph
  source_in = let a : IsLink n.graph (link_at n.graph case.link.0) = nn.graph.each case.link.0 c.within in a.0

  s_tree : TreeStays n.graph m.graph (tail n.graph case.link.0)
  s_tree = kept-tree n.graph m.graph v (tail n.graph case.link.0) source_in c.tree

  ends_at : (tail m.graph c.link.0 ≡ tail n.graph case.link.0) × (head m.graph c.link.0 ≡ head n.graph case.link.0)
  ends_at = name-ends n.graph m.graph nn.graph nm.graph nn.named nm.named c.nodes case.link.0 c.link.0 c.protected

  -- the same destinations are affected
  pub affected_there : (d : ℕ) → d < node_count n.graph → IsAffected n case d → IsAffected m (case_with case c.link) d
  affected_there d within a = record {
    index = sym (c.index d within a.outside a.hop) ∙ a.index;
    outside = record { source = λ e. a.outside.source (e ∙ ends_at.0); failed = λ is e. a.outside.failed is (e ∙ ends_at.1) };
    hop =
        let r = hop-stays n.graph m.graph nn.graph c.nodes.overloaded nodes_at (tail n.graph case.link.0) d case.link.0 source_in within s_tree a.hop in
        let same : r.0 ≡ c.link.0 = key-one m.graph nm.named r.0 c.link.0 r.1 c.protected.1 (ap (λ j. j.key) r.2 ∙ sym c.protected.2) in
        rw ends_at.0 (subst (λ j. IsNextHop m.graph [] (tail n.graph case.link.0) d j) same r.3);
  }

  pub affected_back : (d : ℕ) → d < node_count n.graph → IsAffected m (case_with case c.link) d → IsAffected n case d
  affected_back d within a =
      let r = hop-stays m.graph n.graph nm.graph (agree-sym n.graph m.graph nodes_at c.nodes.overloaded) (sym nodes_at) (tail n.graph case.link.0) d c.link.0 (omega (arith, nodes_at, source_in)) (omega (arith, nodes_at)) (tree-sym n.graph m.graph (tail n.graph case.link.0) s_tree) (subst (λ j. IsNextHop m.graph [] j d c.link.0) ends_at.0 a.hop) in
      let same : r.0 ≡ case.link.0 = key-one n.graph nn.named r.0 case.link.0 r.1 c.protected.0 (ap (λ j. j.key) r.2 ∙ c.protected.2) in
      let hop : IsNextHop n.graph [] (tail n.graph case.link.0) d case.link.0 = subst (λ j. IsNextHop n.graph [] (tail n.graph case.link.0) d j) same r.3 in
      let outside : IsOutside n.graph case d = record { source = λ e. a.outside.source (e ∙ sym ends_at.0); failed = λ is e. a.outside.failed is (e ∙ sym ends_at.1) } in
      record { index = c.index d within outside hop ∙ a.index; outside = outside; hop = hop }

-- a case that stays is steady
abbrev pub steady-from_kept : (n m : Net) → IsNet n → IsNet m → (case : Case) → IsKeptCase n m case → IsSteadyCase n m case
steady-from_kept n m nn nm case c = record {
  within = c.within;
  nodes = c.nodes;
  link = c.link;
  protected = c.protected;
  x = c.x;
  y = c.y;
  failed = c.failed;
  failed' = c.failed';
  pairs = c.pairs;
  affected = λ d within. (affected_there n m case nn nm c d within, affected_back n m case nn nm c d within);
  post = c.post;
  row = c.row;
  idle = c.idle;
  segments = λ w within on. record { index = (c.way w within on).index; adj = (c.way w within on).adj };
  steps = λ u v at to on more other. inl (c.way u at on).tree;
}

module _ (n m : Net) (case : Case) (nn : IsNet n) (nm : IsNet m) (c : IsSteadyCase n m case) where
  source : ℕ
  source = source_of n.graph case

  v0 : AreVersions n.graph m.graph
  v0 = record { old = nn.graph; new = nm.graph; named = nn.named; named' = nm.named; same = c.nodes }

  pub nodes_same : node_count m.graph ≡ node_count n.graph
  nodes_same = nodes-same n.graph m.graph c.nodes

  pub source_within : tail n.graph case.link.0 < node_count n.graph
  source_within = let a : IsLink n.graph (link_at n.graph case.link.0) = nn.graph.each case.link.0 c.within in a.0

  pub ends : (tail m.graph c.link.0 ≡ tail n.graph case.link.0) × (head m.graph c.link.0 ≡ head n.graph case.link.0)
  ends = name-ends n.graph m.graph nn.graph nm.graph nn.named nm.named c.nodes case.link.0 c.link.0 c.protected

  px : IsPairSet n.graph c.x
  px = failed-pairs n.graph nn.graph nn.named nn.grouped case c.x c.failed

  py : IsPairSet m.graph c.y
  py = failed-pairs m.graph nm.graph nm.named nm.grouped (case_with case c.link) c.y c.failed'

  agree : NamesAgree n.graph c.x m.graph c.y
  agree = pairs-agree n.graph c.x m.graph c.y px py c.pairs

  there : Keeps n.graph c.x m.graph c.y c.post
  there = keeps-there n.graph m.graph v0 c.x c.y c.post px agree c.idle

  back : Keeps m.graph c.y n.graph c.x c.post
  back = keeps-back n.graph m.graph v0 c.x c.y c.post py agree c.pairs c.idle

  -- the row after the failure is that of the new net
  pub post-stays : IsRow m.graph c.y (tail n.graph case.link.0) c.post
  post-stays = row-stays n.graph c.x m.graph c.y (tail n.graph case.link.0) c.post nn.graph nodes_same source_within c.row there back c.nodes.overloaded

  -- the same destinations are affected
  pub affected-there : (d : ℕ) → d < node_count n.graph → IsAffected n case d → IsAffected m (case_with case c.link) d
  affected-there d within a = (c.affected d within).0 a

  pub affected-back : (d : ℕ) → d < node_count n.graph → IsAffected m (case_with case c.link) d → IsAffected n case d
  affected-back d within a = (c.affected d within).1 a

  -- the node at which the failed links lie is the same
  pivot_same : pivot_of m.graph (case_with case c.link) ≡ pivot_of n.graph case
  pivot_same = pivot-by_ends n.graph m.graph case.kind case.link.0 c.link.0 ends.0 ends.1

  pivot_in : pivot_of n.graph case < node_count n.graph
  pivot_in = let k : IsLink n.graph (link_at n.graph case.link.0) = nn.graph.each case.link.0 c.within in pivot-within n.graph case.kind case.link.0 k.0 k.1

  -- a step of a list leads on in the new net, and one of the new net in the old one
  step_there : (u v : ℕ) → u < node_count n.graph → v < node_count n.graph → IsKeptTree n.graph m.graph u ⊎ (IsSameFar n.graph m.graph u (pivot_of n.graph case) × IsSameFar n.graph m.graph (pivot_of n.graph case) v) → KeepsStep n.graph c.x m.graph c.y (tail n.graph case.link.0) u v × KeepsStep m.graph c.y n.graph c.x (tail n.graph case.link.0) u v
  step_there u v at to how =
      let load : AgreeOnLoad m.graph n.graph = agree-sym n.graph m.graph nodes_same c.nodes.overloaded in
      ⊎_elim
      (λ tree.
      let t : TreeStays n.graph m.graph u = kept-tree n.graph m.graph v0 u at tree in (
        step-by_tree n.graph c.x m.graph c.y (tail n.graph case.link.0) u v nm.graph load t nodes_same (λ i j p q e. agree i j (p, q, ap (λ k. k.key) e)) at to,
        step-by_tree m.graph c.y n.graph c.x (tail n.graph case.link.0) u v nn.graph c.nodes.overloaded (tree-sym n.graph m.graph u t) (sym nodes_same) (λ i j p q e. sym (agree j i (q, p, ap (λ k. k.key) (sym e)))) (omega (arith, nodes_same)) (omega (arith, nodes_same)),
      ))
      (λ far. (
        step-by_pivot n.graph c.x m.graph c.y (tail n.graph case.link.0) (pivot_of n.graph case) c.post nn.graph nm.graph c.nodes.overloaded c.row post-stays there nodes_same pivot_in
            (λ l lw failed. subst (λ k. Touches m.graph l k) pivot_same (lie-at_pivot m.graph nm.graph nm.named (case_with case c.link) c.y c.protected.1 c.failed' l lw failed))
            (pivot-known n.graph case c.x c.failed)
            u v at to far.0 far.1,
        step-by_pivot m.graph c.y n.graph c.x (tail n.graph case.link.0) (pivot_of n.graph case) c.post nm.graph nn.graph load post-stays c.row back (sym nodes_same) (omega (arith, nodes_same, pivot_in))
            (λ l lw failed. lie-at_pivot n.graph nn.graph nn.named case c.x c.within c.failed l lw failed)
            (⊎_elim
            (λ own. inl (sym pivot_same ∙ own ∙ ends.0))
            (λ all. inr (λ l lw touch. all l lw (subst (λ k. Touches m.graph l k) (sym pivot_same) touch)))
            (pivot-known m.graph (case_with case c.link) c.y c.failed'))
            u v (omega (arith, nodes_same)) (omega (arith, nodes_same)) (far-sym n.graph m.graph u (pivot_of n.graph case) far.0) (far-sym n.graph m.graph (pivot_of n.graph case) v far.1),
      ))
      how

  -- what one destination needs
  pub stays-at : (d : ℕ) → d < node_count n.graph → IsAffected n case d → Stays n c.x m c.y (tail n.graph case.link.0) d c.post
  stays-at d within a = record {
    graph = nn.graph;
    graph' = nm.graph;
    nodes = nodes_same;
    agree = c.nodes.overloaded;
    source = source_within;
    row = c.row;
    row' = post-stays;
    there = there;
    back = back;
    same = λ i j p q e. agree i j (p, q, ap (λ t. t.key) e);
    steps = λ u v at to o p other. step_there u v at to (c.steps u v at to (d, a, on-way n.graph c.x (tail n.graph case.link.0) d u o) (d, a, on-way n.graph c.x (tail n.graph case.link.0) d v p) other);
    index = λ w inside o. (c.segments w inside (d, a, on-way n.graph c.x (tail n.graph case.link.0) d w o)).index;
    adj = λ i j p q o e.
        let b : IsLink n.graph (link_at n.graph i) = nn.graph.each i p in
        (c.segments (tail n.graph i) b.0 (d, a, on-way n.graph c.x (tail n.graph case.link.0) d (tail n.graph i) o)).adj i j (p, q, ap (λ t. t.key) e) refl;
  }

  -- the distance after the failure stays
  distance_there : (d e : ℕ) → d < node_count n.graph → IsDistance n.graph c.x (tail n.graph case.link.0) d e → IsDistance m.graph c.y (tail n.graph case.link.0) d e
  distance_there d e within f =
      let i : (slice_index c.post d < FAR) × (slice_index c.post d ≡ e) = in_row n.graph c.x (tail n.graph case.link.0) d e c.post c.row within f in
      subst (λ j. IsDistance m.graph c.y (tail n.graph case.link.0) d j) i.1 ((post-stays.each d (omega (arith, nodes_same))).near i.0)

  -- the least list stays, with the links of the new net
  least-there : (d : ℕ) → d < node_count n.graph → IsAffected n case d → (p : RepairList) → IsLeast n c.x (tail n.graph case.link.0) d (path_of p) → IsDistance n.graph c.x (tail n.graph case.link.0) d p.cost → (q : RepairList) × IsSameList n.graph m.graph p q × IsLeast m c.y (tail n.graph case.link.0) d (path_of q) × IsDistance m.graph c.y (tail n.graph case.link.0) d q.cost × (length p.segments ≡ length q.segments)
  least-there d within af p least far =
      let b = least-kept n c.x m c.y (tail n.graph case.link.0) d c.post (stays-at d within af) (names-ordered n.graph m.graph nn.named nm.named) within (path_of p) least in (
        record { first = record { 0 = b.0.first }; segments = b.0.segments; cost = p.cost },
        record { first = (b.2.0, b.2.1, ap (λ j. j.key) b.2.2); segments = segments-same n.graph m.graph p.segments b.0.segments b.3; cost = refl },
        b.1,
        distance_there d p.cost within far,
        length-alike n.graph m.graph p.segments b.0.segments b.3,
      )

  -- what is listed in the old net, with the links of the new one, is listed in the new net
  pub listed-kept : (d : ℕ) → d < node_count n.graph → IsAffected n case d → (a : Answer) → IsListed n c.x (tail n.graph case.link.0) d a → (b : Answer) × IsSameAnswer n.graph m.graph a b × IsListed m c.y (tail n.graph case.link.0) d b
  listed-kept d within af NoPath a = (
    NoPath,
    refl,
    ⊎_elim
        (λ near. let f = (c.row.each d within).near near in absurd (a f.reached.0 f.reached.1))
        (λ far. (post-stays.each d (omega (arith, nodes_same))).far far)
        (cases_lt (slice_index c.post d) FAR),
  )
  listed-kept d within af NoList a = (
    NoList,
    refl,
    (
      ⊎_elim
          (λ near. let f = (post-stays.each d (omega (arith, nodes_same))).near near in (f.reached.0, f.reached.1))
          (λ far. absurd ((c.row.each d within).far far a.0.0 a.0.1))
          (cases_lt (slice_index c.post d) FAR),
      none-kept n c.x m c.y (tail n.graph case.link.0) d c.post (stays-at d within af) within a.1,
    ),
  )
  listed-kept d within af (TooDeep i) a = absurd a
  listed-kept d within af (Least p) a =
      let b = least-there d within af p a.0 a.1 in
      (Least b.0, (b.0, refl, b.1), (b.2, b.3))

  -- and so is the answer of the old net in the new one, where the source lets the same lists through
  pub answer-kept : HasSameDepth n m (tail n.graph case.link.0) → (d : ℕ) → d < node_count n.graph → IsAffected n case d → (a : Answer) → IsAnswer n c.x (tail n.graph case.link.0) d a → (b : Answer) × IsSameAnswer n.graph m.graph a b × IsAnswer m c.y (tail n.graph case.link.0) d b
  answer-kept depth d within af NoPath a =
      let b = listed-kept d within af NoPath a in
      (NoPath, refl, subst (λ j. IsListed m c.y (tail n.graph case.link.0) d j) b.1 b.2)
  answer-kept depth d within af NoList a =
      let b = listed-kept d within af NoList a in
      (NoList, refl, subst (λ j. IsListed m c.y (tail n.graph case.link.0) d j) b.1 b.2)
  answer-kept depth d within af (TooDeep i) a =
      let p : RepairList = record { first = record { 0 = a.0.first }; segments = a.0.segments; cost = metric n.graph a.0.first + a.1.sound.middle + a.1.sound.rest } in
      let b = least-there d within af p a.1 a.1.sound.fits in
      (TooDeep i, refl, (path_of b.0, b.2, sym b.4 ∙ a.2, λ f. a.3 (fits-back n m (tail n.graph case.link.0) i depth f)))
  answer-kept depth d within af (Least p) a =
      let b = least-there d within af p a.0 a.2 in
      (Least b.0, (b.0, refl, b.1), (b.2, subst (λ j. Fits m (tail n.graph case.link.0) j) b.4 (fits-there n m (tail n.graph case.link.0) (length p.segments) depth a.1), b.3))

one_like : (g h : Graph) → IsNamed h → (l : ℕ) (j k : LinkNo) → HaveSameName g h l j.0 → HaveSameName g h l k.0 → j ≡ k
one_like g h named l j k p q = link_is j k (key-one h named j.0 k.0 p.1 q.1 (p.2 ∙ sym q.2))

segments_one : (g h : Graph) → IsNamed h → (ss ts us : List Segment) → AreSegmentsSame g h ss ts → AreSegmentsSame g h ss us → ts ≡ us
segments_one g h named [] ts us p q = p ∙ sym q
segments_one g h named (Node v ∷ ss) [] us p q = absurd p
segments_one g h named (Node v ∷ ss) (Adj k ∷ ts) us p q = absurd p
segments_one g h named (Node v ∷ ss) (Node w ∷ ts) [] p q = absurd q
segments_one g h named (Node v ∷ ss) (Node w ∷ ts) (Adj k ∷ us) p q = absurd q
segments_one g h named (Node v ∷ ss) (Node w ∷ ts) (Node z ∷ us) p q =
    let e : w ≡ z = sym p.0 ∙ q.0 in
    let f : ts ≡ us = segments_one g h named ss ts us p.1 q.1 in
    cc
segments_one g h named (Adj l ∷ ss) [] us p q = absurd p
segments_one g h named (Adj l ∷ ss) (Node w ∷ ts) us p q = absurd p
segments_one g h named (Adj l ∷ ss) (Adj j ∷ ts) [] p q = absurd q
segments_one g h named (Adj l ∷ ss) (Adj j ∷ ts) (Node w ∷ us) p q = absurd q
segments_one g h named (Adj l ∷ ss) (Adj j ∷ ts) (Adj k ∷ us) p q =
    let e : j ≡ k = one_like g h named l.0 j k p.0 q.0 in
    let f : ts ≡ us = segments_one g h named ss ts us p.1 q.1 in
    cc

list_is : (a b : RepairList) → a.first ≡ b.first → a.segments ≡ b.segments → a.cost ≡ b.cost → a ≡ b
list_is a b f s c =
    let q : record { first = a.first; segments = a.segments; cost = a.cost } ≡ record { first = b.first; segments = b.segments; cost = b.cost } = rw (f, s, c) refl in
    q

-- an answer has one like in the new net
pub like-one : (g h : Graph) → IsNamed h → (a b c : Answer) → IsSameAnswer g h a b → IsSameAnswer g h a c → b ≡ c
like-one g h named NoPath b c p q = p ∙ sym q
like-one g h named NoList b c p q = p ∙ sym q
like-one g h named (TooDeep k) b c p q = p ∙ sym q
like-one g h named (Least a) b c p q =
    let same : p.0 ≡ q.0 = list_is p.0 q.0 (one_like g h named a.first.0 p.0.first q.0.first p.2.first q.2.first) (segments_one g h named a.segments p.0.segments q.0.segments p.2.segments q.2.segments) (sym p.2.cost ∙ q.2.cost) in
    p.1 ∙ ap Least same ∙ sym q.1

-- a kept tree: its row is that of the new graph
pub tree-same : (g h : Graph) → IsGraph g → IsNamed g → IsGraph h → IsNamed h → (u : ℕ) → u < node_count g → IsKeptTree g h u → (cells : List ℕ) → IsRow g [] u cells → IsRow h [] u cells
tree-same g h gg ng gh nh u within t cells row =
    let tree : TreeStays g h u = kept-tree g h (record { old = gg; new = gh; named = ng; named' = nh; same = t.nodes }) u within t in
    subst (λ j. IsRow h [] u j) (row-one g [] u t.cells cells t.row row) tree.new

-- and its next hops are those of the new graph, by key
pub hops-same : (g h : Graph) → IsGraph g → IsNamed g → IsGraph h → IsNamed h → (u w l k : ℕ) → u < node_count g → w < node_count g → IsKeptTree g h u → HaveSameName g h l k → IsNextHop g [] u w l ↔ IsNextHop h [] u w k
hops-same g h gg ng gh nh u w l k at within t is =
    let nodes : node_count h ≡ node_count g = nodes-same g h t.nodes in
    let tree : TreeStays g h u = kept-tree g h (record { old = gg; new = gh; named = ng; named' = nh; same = t.nodes }) u at t in (
      λ hop.
          let r = hop-stays g h gg t.nodes.overloaded nodes u w l at within tree hop in
          let same : r.0 ≡ k = key-one h nh r.0 k r.1 is.1 (ap (λ j. j.key) r.2 ∙ sym is.2) in
          subst (λ j. IsNextHop h [] u w j) same r.3,
      λ hop.
          let r = hop-stays h g gh (agree-sym g h nodes t.nodes.overloaded) (sym nodes) u w k (omega (arith, nodes)) (omega (arith, nodes)) (tree-sym g h u tree) hop in
          let same : r.0 ≡ l = key-one g ng r.0 l r.1 is.0 (ap (λ j. j.key) r.2 ∙ is.2) in
          subst (λ j. IsNextHop g [] u w j) same r.3,
    )

-- each next hop of a kept tree is a link of the new graph
pub hop-there : (g h : Graph) → IsGraph g → IsNamed g → IsGraph h → IsNamed h → (u w l : ℕ) → u < node_count g → w < node_count g → IsKeptTree g h u → IsNextHop g [] u w l → (k : ℕ) × HaveSameName g h l k
hop-there g h gg ng gh nh u w l at within t hop =
    let tree : TreeStays g h u = kept-tree g h (record { old = gg; new = gh; named = ng; named' = nh; same = t.nodes }) u at t in
    let r = hop-stays g h gg t.nodes.overloaded (nodes-same g h t.nodes) u w l at within tree hop in
    let inside : l < link_count g = hop.shortest.0.0 in
    (r.0, (inside, r.1, ap (λ j. j.key) r.2))

pub affected-same : (n m : Net) → IsNet n → IsNet m → (case : Case) → (c : IsSteadyCase n m case) → (d : ℕ) → d < node_count n.graph → IsAffected n case d ↔ IsAffected m (case_with case c.link) d
affected-same n m nn nm case c d within = (affected-there n m case nn nm c d within, affected-back n m case nn nm c d within)

-- what was listed, with the links of the new net, is what is listed there
pub listed-renumbered : (n m : Net) → IsNet n → IsNet m → (case : Case) → (c : IsSteadyCase n m case) → (d : ℕ) → d < node_count n.graph → IsAffected n case d → (a b : Answer) → IsCaseListed n case d a → IsSameAnswer n.graph m.graph a b → IsCaseListed m (case_with case c.link) d b
listed-renumbered n m nn nm case c d within af a b old same =
    let r = listed-kept n m case nn nm c d within af a (subst (λ j. IsListed n j (tail n.graph case.link.0) d a) (failed-one n.graph case old.failed c.x old.set c.failed) old.listed) in
    let ends = name-ends n.graph m.graph nn.graph nm.graph nn.named nm.named c.nodes case.link.0 c.link.0 c.protected in
    let e : r.0 ≡ b = like-one n.graph m.graph nm.named a r.0 b r.1 same in
    record {
      failed = c.y;
      set = c.failed';
      listed = subst (λ j. IsListed m c.y (tail m.graph c.link.0) d j) e (subst (λ j. IsListed m c.y j d r.0) (sym ends.0) r.2);
    }

-- so what was listed is what is listed afresh
pub listed-same : (n m : Net) → IsNet n → IsNet m → (case : Case) → (c : IsSteadyCase n m case) → (d : ℕ) → d < node_count n.graph → IsAffected n case d → (a b : Answer) → IsCaseListed n case d a → IsCaseListed m (case_with case c.link) d b → IsSameAnswer n.graph m.graph a b
listed-same n m nn nm case c d within af a b old new =
    let r = listed-kept n m case nn nm c d within af a (subst (λ j. IsListed n j (tail n.graph case.link.0) d a) (failed-one n.graph case old.failed c.x old.set c.failed) old.listed) in
    let ends = name-ends n.graph m.graph nn.graph nm.graph nn.named nm.named c.nodes case.link.0 c.link.0 c.protected in
    let new' : IsListed m c.y (tail m.graph c.link.0) d b = subst (λ j. IsListed m j (tail m.graph c.link.0) d b) (failed-one m.graph (case_with case c.link) new.failed c.y new.set c.failed') new.listed in
    let same : r.0 ≡ b = listed-one m c.y (tail n.graph case.link.0) d r.0 b r.2 (subst (λ j. IsListed m c.y j d b) ends.0 new') in
    subst (λ j. IsSameAnswer n.graph m.graph a j) same r.1

-- the old answer with the links of the new net is the new answer
pub answer-renumbered : (n m : Net) → IsNet n → IsNet m → (case : Case) → (c : IsKeptCase n m case) → (d : ℕ) → d < node_count n.graph → IsAffected n case d → (a b : Answer) → IsCaseAnswer n case d a → IsSameAnswer n.graph m.graph a b → IsCaseAnswer m (case_with case c.link) d b
answer-renumbered n m nn nm case c d within af a b old same =
    let r = answer-kept n m case nn nm (steady-from_kept n m nn nm case c) c.depth d within af a (subst (λ j. IsAnswer n j (tail n.graph case.link.0) d a) (failed-one n.graph case old.failed c.x old.set c.failed) old.answers) in
    let ends = name-ends n.graph m.graph nn.graph nm.graph nn.named nm.named c.nodes case.link.0 c.link.0 c.protected in
    let e : r.0 ≡ b = like-one n.graph m.graph nm.named a r.0 b r.1 same in
    record {
      failed = c.y;
      set = c.failed';
      answers = subst (λ j. IsAnswer m c.y (tail m.graph c.link.0) d j) e (subst (λ j. IsAnswer m c.y j d r.0) (sym ends.0) r.2);
    }

-- so what was kept is what is computed afresh
pub answers-same : (n m : Net) → IsNet n → IsNet m → (case : Case) → (c : IsKeptCase n m case) → (d : ℕ) → d < node_count n.graph → IsAffected n case d → (a b : Answer) → IsCaseAnswer n case d a → IsCaseAnswer m (case_with case c.link) d b → IsSameAnswer n.graph m.graph a b
answers-same n m nn nm case c d within af a b old new =
    let r = answer-kept n m case nn nm (steady-from_kept n m nn nm case c) c.depth d within af a (subst (λ j. IsAnswer n j (tail n.graph case.link.0) d a) (failed-one n.graph case old.failed c.x old.set c.failed) old.answers) in
    let ends = name-ends n.graph m.graph nn.graph nm.graph nn.named nm.named c.nodes case.link.0 c.link.0 c.protected in
    let new' : IsAnswer m c.y (tail m.graph c.link.0) d b = subst (λ j. IsAnswer m j (tail m.graph c.link.0) d b) (failed-one m.graph (case_with case c.link) new.failed c.y new.set c.failed') new.answers in
    let same : r.0 ≡ b = answer-one m c.y (tail n.graph case.link.0) d r.0 b r.2 (subst (λ j. IsAnswer m c.y j d b) ends.0 new') in
    subst (λ j. IsSameAnswer n.graph m.graph a j) same r.1

-- the row after the failure is that of the new net
pub post-same : (n m : Net) → IsNet n → IsNet m → (case : Case) → (c : IsSteadyCase n m case) → (x y : List Bool) → IsFailedSet n.graph case x → IsFailedSet m.graph (case_with case c.link) y → (cells : List ℕ) → IsRow n.graph x (source_of n.graph case) cells → IsRow m.graph y (source_of m.graph (case_with case c.link)) cells
post-same n m nn nm case c x y sx sy cells row =
    let ex : x ≡ c.x = failed-one n.graph case x c.x sx c.failed in
    let ey : c.y ≡ y = failed-one m.graph (case_with case c.link) c.y y c.failed' sy in
    let ends = name-ends n.graph m.graph nn.graph nm.graph nn.named nm.named c.nodes case.link.0 c.link.0 c.protected in
    let row' : IsRow n.graph c.x (tail n.graph case.link.0) cells = subst (λ j. IsRow n.graph j (tail n.graph case.link.0) cells) ex row in
    let same : c.post ≡ cells = row-one n.graph c.x (tail n.graph case.link.0) c.post cells c.row row' in
    let new : IsRow m.graph c.y (tail n.graph case.link.0) cells = subst (λ j. IsRow m.graph c.y (tail n.graph case.link.0) j) same (post-stays n m case nn nm c) in
    subst (λ j. IsRow m.graph j (tail m.graph c.link.0) cells) ey (subst (λ j. IsRow m.graph c.y j cells) (sym ends.0) new)
