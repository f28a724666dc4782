-- What a kept tree and a kept case say of the other net: its next hops, its nodes on repair ways, and the like of
-- each answer.
use Rattle.std.proofs.Common.{◌≡◌, ℕ, ◌<◌, ⊎_elim, Bool, false, true, List, [], ◌++◌, length, refl, arith, ap, sym, subst}
use Rattle.std.specs.Prelude.{◌↔◌, is_some}
use Rattle.std.proofs.lemmas.Bool.{cases_lt}
use Rattle.std.proofs.lemmas.List.{get_or_past}
use Rattle.sr_model.specs.declared.case.Case.{Case}
use Rattle.sr_model.specs.declared.repair.Answer.{Answer}
use Rattle.sr_model.specs.Graph.{Graph, node_count, link_count, tail, IsGraph, IsNamed}
use Rattle.sr_model.specs.Walk.{cost, IsWalk, IsDistance, IsNextHop, IsOnWay, IsShortest, Passes}
use Rattle.sr_model.specs.Case.{IsAffected, IsFailedSet, IsOnRepairWay}
use Rattle.sr_model.specs.Label.{Labels, Net, labels_at, nameless}
use Rattle.sr_model.specs.Rule.{IsNet}
use Rattle.sr_model.specs.Repair.{IsAnswer, IsCaseAnswer}
use Rattle.sr_model.specs.Stay.{HaveSameName, IsKeptCase, IsKeptTree, case_with, IsSameAnswer}
use Rattle.sr_walks.proofs.Walks.{cost-append, walk-end, walk-within, Begins, begins-self, begins-passes}
use Rattle.sr_walks.proofs.Distances.{shortest-cut, distance-from_shortest}
use Rattle.sr_walks.proofs.Rows.{agree-sym}
use Rattle.sr_laws.specs.Listed.{IsCaseListed, IsListed}
use Rattle.sr_laws.specs.Steady.{IsSteadyCase}
use Rattle.sr_laws.proofs.Keys.{nodes-same}
use Rattle.sr_laws.proofs.KeptLists.{TreeStays, tree-sym, OnWay, Stays}
use Rattle.sr_laws.proofs.KeptOrder.{way-sym, stays-sym}
use Rattle.sr_laws.proofs.Failures.{failed-one}
use Rattle.sr_laws.proofs.Kept.{nodes_same, source_within, ends, kept-tree, hop-stays, on-way, stays-at, affected-there, affected-back, answer-kept, listed-kept, steady-from_kept}

-- each next hop of the new graph is a link of the old one
pub hop-old : (g h : Graph) → IsGraph g → IsNamed g → IsGraph h → IsNamed h → (u w k : ℕ) → u < node_count g → w < node_count g → IsKeptTree g h u → IsNextHop h [] u w k → (l : ℕ) × HaveSameName g h l k
hop-old g h gg ng gh nh u w k at within t hop =
    let nodes : node_count h ≡ node_count g = nodes-same g h t.nodes in
    let tree : TreeStays g h u = kept-tree g h (record { old = gg; new = gh; named = ng; named' = nh; same = t.nodes }) u at t in
    let r = hop-stays h g gh (agree-sym g h nodes t.nodes.overloaded) (sym nodes) u w k (omega (arith, nodes)) (omega (arith, nodes)) (tree-sym g h u tree) hop in
    let inside : k < link_count h = hop.shortest.0.0 in
    (r.0, (r.1, inside, ap (λ j. j.key) (sym r.2)))

-- what was listed has its like
pub listed-there : (n m : Net) → IsNet n → IsNet m → (case : Case) → (c : IsSteadyCase n m case) → (d : ℕ) → d < node_count n.graph → IsAffected n case d → (a : Answer) → IsCaseListed n case d a → (b : Answer) × IsSameAnswer n.graph m.graph a b
listed-there n m nn nm case c d within af a old =
    let r = listed-kept n m case nn nm c d within af a (subst (λ j. IsListed n j (tail n.graph case.link.0) d a) (failed-one n.graph case old.failed c.x old.set c.failed) old.listed) in
    (r.0, r.1)

-- the old answer has its like
pub answer-there : (n m : Net) → IsNet n → IsNet m → (case : Case) → (c : IsKeptCase n m case) → (d : ℕ) → d < node_count n.graph → IsAffected n case d → (a : Answer) → IsCaseAnswer n case d a → (b : Answer) × IsSameAnswer n.graph m.graph a b
answer-there n m nn nm case c d within af a old =
    let r = answer-kept n m case nn nm (steady-from_kept n m nn nm case c) c.depth d within af a (subst (λ j. IsAnswer n j (tail n.graph case.link.0) d a) (failed-one n.graph case old.failed c.x old.set c.failed) old.answers) in
    (r.0, r.1)

-- what has an index is a node
index-within : (n : Net) (d : ℕ) → IsNet n → is_some (labels_at n d).index ≡ true → d < node_count n.graph
index-within n d nn some =
    let long : length n.labels ≡ node_count n.graph = nn.nodes in
    ⊎_elim
    (λ lt. omega (arith, lt))
    (λ ge.
    let past : labels_at n d ≡ nameless = get_or_past n.labels d nameless ge in
    let none : is_some (labels_at n d).index ≡ false = ap (λ (a : Labels). is_some a.index) past in
    absurd {0} (cc))
    (cases_lt d (length n.labels))

-- a node on a shortest walk has the right sums
off-way : (g : Graph) (x : List Bool) (s d w : ℕ) → IsOnWay g x s d w → OnWay g x s d w
off-way g x s d w o =
    let r = shortest-cut g x s o.before o.after d o.shortest in
    let same : r.0 ≡ w = walk-end g x s o.before r.0 w r.1.0 o.to in
    let whole : IsDistance g x s d (cost g (o.before ++ o.after)) = distance-from_shortest g x s d (o.before ++ o.after) o.shortest in
    let begins : Begins g s w o.after =
    ⊎_elim
    (λ e. let here : s ≡ w = subst (λ p. IsWalk g x s p w) e o.to in subst (λ j. Begins g s j o.after) here (begins-self g s o.after))
    (λ (pass : Passes g r.0 o.after). begins-passes g s w o.after (subst (λ j. Passes g j o.after) same pass))
    r.3 in
    record {
      far = cost g o.before;
      rest = cost g o.after;
      to = distance-from_shortest g x s w o.before (subst (λ j. IsShortest g x s o.before j) same r.1);
      from = (o.after, o.from, refl, begins);
      whole = subst (λ j. IsDistance g x s d j) (omega (arith, cost-append g o.before o.after)) whole;
    }

module _ (n m : Net) (case : Case) (nn : IsNet n) (nm : IsNet m) (c : IsSteadyCase n m case) where
  way_there : (w : ℕ) → IsOnRepairWay n case c.x w → IsOnRepairWay m (case_with case c.link) c.y w
  way_there w on =
      let d_within : on.0 < node_count n.graph = index-within n on.0 nn on.1.index in
      let w_within : w < node_count n.graph = walk-within n.graph c.x (tail n.graph case.link.0) on.2.before w nn.graph (source_within n m case nn nm c) on.2.to in
      let st : Stays n c.x m c.y (tail n.graph case.link.0) on.0 c.post = stays-at n m case nn nm c on.0 d_within on.1 in
      let o : OnWay m.graph c.y (tail n.graph case.link.0) on.0 w = way-sym m c.y n c.x (tail n.graph case.link.0) on.0 c.post (stays-sym n c.x m c.y (tail n.graph case.link.0) on.0 c.post st d_within) w w_within d_within (off-way n.graph c.x (tail n.graph case.link.0) on.0 w on.2) in
      (on.0, affected-there n m case nn nm c on.0 d_within on.1, subst (λ s. IsOnWay m.graph c.y s on.0 w) (sym (ends n m case nn nm c).0) (on-way m.graph c.y (tail n.graph case.link.0) on.0 w o))

  way_back : (w : ℕ) → IsOnRepairWay m (case_with case c.link) c.y w → IsOnRepairWay n case c.x w
  way_back w on =
      let d_within' : on.0 < node_count m.graph = index-within m on.0 nm on.1.index in
      let d_within : on.0 < node_count n.graph = omega (arith, nodes_same n m case nn nm c, d_within') in
      let way : IsOnWay m.graph c.y (tail n.graph case.link.0) on.0 w = subst (λ s. IsOnWay m.graph c.y s on.0 w) (ends n m case nn nm c).0 on.2 in
      let s_within : tail n.graph case.link.0 < node_count m.graph = omega (arith, nodes_same n m case nn nm c, source_within n m case nn nm c) in
      let w_within : w < node_count m.graph = walk-within m.graph c.y (tail n.graph case.link.0) way.before w nm.graph s_within way.to in
      let af : IsAffected n case on.0 = affected-back n m case nn nm c on.0 d_within on.1 in
      let st : Stays n c.x m c.y (tail n.graph case.link.0) on.0 c.post = stays-at n m case nn nm c on.0 d_within af in
      let o : OnWay n.graph c.x (tail n.graph case.link.0) on.0 w = way-sym n c.x m c.y (tail n.graph case.link.0) on.0 c.post st w w_within d_within' (off-way m.graph c.y (tail n.graph case.link.0) on.0 w way) in
      (on.0, af, on-way n.graph c.x (tail n.graph case.link.0) on.0 w o)

-- the same nodes stand on repair ways
pub ways-same : (n m : Net) → IsNet n → IsNet m → (case : Case) → (c : IsSteadyCase n m case) → (x y : List Bool) → IsFailedSet n.graph case x → IsFailedSet m.graph (case_with case c.link) y → (w : ℕ) → IsOnRepairWay n case x w ↔ IsOnRepairWay m (case_with case c.link) y w
ways-same n m nn nm case c x y sx sy w =
    let ex : x ≡ c.x = failed-one n.graph case x c.x sx c.failed in
    let ey : y ≡ c.y = failed-one m.graph (case_with case c.link) y c.y sy c.failed' in (
      λ on. subst (λ j. IsOnRepairWay m (case_with case c.link) j w) (sym ey) (way_there n m case nn nm c w (subst (λ j. IsOnRepairWay n case j w) ex on)),
      λ on. subst (λ j. IsOnRepairWay n case j w) (sym ex) (way_back n m case nn nm c w (subst (λ j. IsOnRepairWay m (case_with case c.link) j w) ey on)),
    )
