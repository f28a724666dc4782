-- Every run from a sound list's stack follows a shortest walk without the failed links.
use Rattle.std.proofs.Common.{◌≡◌, ◌≢◌, ℕ, ◌+◌, ◌*◌, ◌<◌, ◌≤◌, ◌⊎◌, ⊎_elim, inl, inr, Bool, true, false, List, [], ◌∷◌, ◌++◌, length, append_assoc, append-nil, refl, arith, ap, sym, ◌∙◌, subst, Some}
use Rattle.std.proofs.lemmas.List.Elements.{All-nil, All-head, All-tail}
use Rattle.std.proofs.lemmas.Bool.{cases_eq}
use Rattle.std.proofs.lemmas.List.{length-append}
use Rattle.sr_model.specs.Forward.{Crossing, Delivers, IsLabels, IsStack, Run, RunsWell, Step, crossed}
use Rattle.sr_model.specs.Graph.{Graph, IsGraph, IsLink, carries, has, head, is_overloaded, link_at, link_count, metric, node_count, tail}
use Rattle.sr_model.specs.Label.{IsLabel, Net, adj_at, label_of, labels_at}
use Rattle.sr_model.specs.Repair.{IsSound, Path}
use Rattle.sr_model.specs.Rule.{IsNet}
use Rattle.sr_model.specs.Space.{InP}
use Rattle.sr_model.specs.Walk.{AreDistinct, IsDistance, IsNextHop, IsShortest, IsWalk, Passes, cost, stops}
use Rattle.sr_model.specs.declared.entry.Move.{Move}
use Rattle.sr_model.specs.declared.entry.Move.TheVariants.{Crossed, Popped}
use Rattle.sr_model.specs.declared.link.NodeNo.{NodeNo}
use Rattle.sr_model.specs.declared.repair.Segment.{Segment}
use Rattle.sr_model.specs.declared.repair.Segment.TheVariants.{Adj, Node}
use Rattle.sr_walks.proofs.Distinct.{shortest-length, shortest-distinct}
use Rattle.sr_walks.proofs.Walks.{IsWalk-append, cost-append, carries-cases, carries-clear, passes-clear, passes-cases}
use Rattle.sr_laws.proofs.Waypoints.{Routes, IsRouted, routed-from_sound, space-walk}
use Rattle.sr_walks.proofs.Distances.{shortest-cut, distance-unique, distance-self, sum-from_IsNextHop, IsShortest-from_cost}
use Rattle.sr_laws.proofs.Parts.{true_or}

-- a next hop towards a node of P is outside x, and its end has the node in P too
pub hop-outside : (g : Graph) (x : List Bool) (u v l : ℕ) → InP g x u v → IsNextHop g [] u v l → has x l ≡ false
hop-outside g x u v l inside hop = All-head (λ k. has x k ≡ false) l hop.more (inside.avoids (l ∷ hop.more) hop.shortest)

-- what costs nothing is no walk
pub no_cost : (g : Graph) (x : List Bool) (u : ℕ) (q : List ℕ) (v : ℕ) → IsGraph g → IsWalk g x u q v → cost g q ≤ 0 → q ≡ []
no_cost g x u [] v graph a c = refl
no_cost g x u (l ∷ q) v graph a c = let k : IsLink g (link_at g l) = graph.each l a.0 in absurd (omega arith)

pub InP-hop : (g : Graph) (x : List Bool) (u v l : ℕ) → IsGraph g → InP g x u v → IsNextHop g [] u v l → InP g x (head g l) v
InP-hop g x u v l graph inside hop = record {
  reached = (hop.more, hop.shortest.0.3);
  avoids = λ q s.
      let le : cost g q ≤ cost g hop.more = s.1 hop.more hop.shortest.0.3 in
      ⊎_elim
      (λ over.
      let none : cost g q ≤ 0 = subst (λ k. cost g q ≤ cost g k) over le in
      rw (no_cost g [] (head g l) q v graph s.0 none) (All-nil (λ k. has x k ≡ false)))
      (λ clear.
      let whole : IsShortest g [] u (l ∷ q) v = (
        (hop.shortest.0.0, hop.shortest.0.1, hop.shortest.0.2, s.0, passes-clear g (head g l) q clear),
        λ o b. let ge : metric g l + cost g hop.more ≤ cost g o = hop.shortest.1 o b in omega arith,
      ) in
      All-tail (λ k. has x k ≡ false) l q (inside.avoids (l ∷ q) whole))
      (passes-cases g (head g l) hop.more hop.shortest.0.4);
}

-- the segments, with the destination as the last, lead from u to d at this cost
abbrev pub Legs : Net → List Bool → ℕ → List Segment → ℕ → ℕ → Type 0
Legs n x u [] d c = (u ≡ d) × (c ≡ 0)
Legs n x u (Node v ∷ ls) d c =
    (e : ℕ) × (f : ℕ) × (v.0 < node_count n.graph) × InP n.graph x u v.0 × IsDistance n.graph [] u v.0 e × Legs n x v.0 ls d f × (c ≡ e + f) × (carries n.graph v.0 u ≡ true)
Legs n x u (Adj l ∷ ls) d c =
    (f : ℕ) × (l.0 < link_count n.graph) × (tail n.graph l.0 ≡ u) × (has x l.0 ≡ false) × Legs n x (head n.graph l.0) ls d f × (c ≡ metric n.graph l.0 + f) × (is_overloaded n.graph u ≡ false)

pub legs-from_routes : (n : Net) (x : List Bool) (u : ℕ) (ss : List Segment) (w d c e : ℕ) → d < node_count n.graph → Routes n x u ss w c → carries n.graph d w ≡ true → InP n.graph x w d → IsDistance n.graph [] w d e → Legs n x u (ss ++ Node (record { 0 = d }) ∷ []) d (c + e)
legs-from_routes n x u [] w d c e within a free b whole =
    (e, 0, within, rw a.0 b, rw a.0 whole, (refl, refl), omega (arith, a.1), rw a.0 free)
legs-from_routes n x u (Node v ∷ ss) w d c e within a free b whole =
    (a.0, a.1 + e, a.3, a.5, a.6, legs-from_routes n x v.0 ss w d a.1 e within a.7 free b whole, omega (arith, a.8), carries-clear n.graph v.0 u a.9)
legs-from_routes n x u (Adj l ∷ ss) w d c e within a free b whole =
    (a.0 + e, a.1, a.2, a.3, legs-from_routes n x (head n.graph l.0) ss w d a.0 e within a.5 free b whole, omega (arith, a.6), a.7)

-- what is left of the legs can be walked without x
pub legs-walk : (n : Net) (x : List Bool) (u : ℕ) (ls : List Segment) (d c : ℕ) → Legs n x u ls d c → (p : List ℕ) × IsWalk n.graph x u p d × (cost n.graph p ≡ c) × Passes n.graph u p
legs-walk n x u [] d c a = ([], a.0, sym a.1, tt)
legs-walk n x u (Node v ∷ ls) d c a =
    let r : (p : List ℕ) × IsWalk n.graph x v.0 p d × (cost n.graph p ≡ a.1) × Passes n.graph v.0 p = legs-walk n x v.0 ls d a.1 a.5 in
    ⊎_elim
    (λ (same : u ≡ v.0).
    let none : a.0 ≡ 0 = distance-unique n.graph [] v.0 v.0 a.0 0 (rw same at a.4) (distance-self n.graph [] v.0) in
    (r.0, rw same r.1, omega (arith, a.6, r.2), rw same r.3))
    (λ clear.
    let q = space-walk n.graph x u v.0 a.0 a.3 a.4 in
    (q.0 ++ r.0, IsWalk-append n.graph x u q.0 v.0 r.0 d q.1 r.1 r.3, omega (arith, cost-append n.graph q.0 r.0, q.2, r.2, a.6), passes-clear n.graph u (q.0 ++ r.0) clear))
    (carries-cases n.graph v.0 u a.7)
legs-walk n x u (Adj l ∷ ls) d c a =
    let r : (p : List ℕ) × IsWalk n.graph x (head n.graph l.0) p d × (cost n.graph p ≡ a.0) × Passes n.graph (head n.graph l.0) p = legs-walk n x (head n.graph l.0) ls d a.0 a.4 in
    (l.0 ∷ r.0, (a.1, a.3, a.2, r.1, r.3), omega (arith, r.2, a.5), a.6)

-- the packet is at u with these labels above the rest, and the legs left
abbrev pub On : Net → List Bool → ℕ → ℕ → List Segment → List ℕ → ℕ → Type 0
On n x d u [] ts c = (ts ≡ []) × (u ≡ d) × (c ≡ 0)
On n x d u (s ∷ ls) [] c = ⊥
On n x d u (Node v ∷ ls) (t ∷ ts) c = (IsLabel n u v.0 t ⊎ ((u ≡ v.0) × (t ≡ 0))) × IsLabels n v.0 ls ts × Legs n x u (Node v ∷ ls) d c
On n x d u (Adj l ∷ ls) (t ∷ ts) c = (adj_at n l.0 ≡ Some t) × IsLabels n (head n.graph l.0) ls ts × Legs n x u (Adj l ∷ ls) d c

pub on-from_labels : (n : Net) (x : List Bool) (d u : ℕ) (ls : List Segment) (ts : List ℕ) (c : ℕ) → IsLabels n u ls ts → Legs n x u ls d c → On n x d u ls ts c
on-from_labels n x d u [] ts c a b = (a, b.0, b.1)
on-from_labels n x d u (s ∷ ls) [] c a b = absurd a
on-from_labels n x d u (Node v ∷ ls) (t ∷ ts) c a b = (inl a.0, a.1, b)
on-from_labels n x d u (Adj l ∷ ls) (t ∷ ts) c a b = (a.0, a.1, b)

-- after a step: what is left
pub record Pops (n : Net) (x : List Bool) (d u : ℕ) (ts : List ℕ) (c : ℕ) (w : ℕ) (after rest : List ℕ) : Type 0 where
  pub legs : List Segment
  pub left : List ℕ
  pub same : w ≡ u
  pub stack : after ≡ left ++ rest
  pub fewer : length left < length ts
  pub on : On n x d w legs left c

-- after link l was crossed: the link stands at u and is free, and what is left costs less by its metric
pub record Crosses (n : Net) (x : List Bool) (d u l : ℕ) (ts : List ℕ) (c : ℕ) (w : ℕ) (after rest : List ℕ) : Type 0 where
  pub legs : List Segment
  pub left : List ℕ
  pub more : ℕ
  pub within : l < link_count n.graph
  pub outside : has x l ≡ false
  pub begins : tail n.graph l ≡ u
  pub clear : is_overloaded n.graph u ≡ false
  pub ends : w ≡ head n.graph l
  pub stack : after ≡ left ++ rest
  pub no_more : length left ≤ length ts
  pub on : On n x d w legs left more
  pub paid : c ≡ metric n.graph l + more

-- what is left after a move: a label was popped, or a link was crossed
abbrev pub Goes : Net → List Bool → ℕ → ℕ → List ℕ → ℕ → Move → ℕ → List ℕ → List ℕ → Type 0
Goes n x d u ts c Popped w after rest = Pops n x d u ts c w after rest
Goes n x d u ts c (Crossed l) w after rest = Crosses n x d u l.0 ts c w after rest

-- two nodes of one label at u are one
pub same_node : (n : Net) (r : IsNet n) (u a b t : ℕ) → IsLabel n u a t → IsLabel n u b t → a ≡ b
same_node n r u a b t la lb =
    let i : la.0 ≡ lb.0 = r.own_label u la.0 lb.0 t la.3 lb.3 in
    r.own_index a b la.0 la.1 lb.1 la.2 (lb.2 ∙ ap (λ k. Some k) (sym i))

pub not_null : (n : Net) (r : IsNet n) (u b t : ℕ) → IsLabel n u b t → t ≡ 0 → ⊥
not_null n r u b t l e = let h : 0 < t = r.high u l.0 t l.3 in omega arith

pub not_adj : (n : Net) (r : IsNet n) (u b t l : ℕ) → IsLabel n u b t → tail n.graph l ≡ u → adj_at n l ≡ Some t → ⊥
not_adj n r u b t l is begins a = r.adj_apart l is.0 t a (rw begins is.3)

-- where the packet has reached the end of a node leg, the leg costs nothing more
leg_over : (n : Net) (x : List Bool) (u : ℕ) (v : NodeNo) (ls : List Segment) (d c : ℕ) → u ≡ v.0 → Legs n x u (Node v ∷ ls) d c → Legs n x v.0 ls d c
leg_over n x u v ls d c e a =
    let z : a.0 ≡ 0 = distance-unique n.graph [] v.0 v.0 a.0 0 (rw e at a.4) (distance-self n.graph [] v.0) in
    let f : a.1 ≡ c = omega (arith, a.6) in
    subst (λ k. Legs n x v.0 ls d k) f a.5

node_pops : (n : Net) (r : IsNet n) (x : List Bool) (d u : ℕ) (v : NodeNo) (ls : List Segment) (t : ℕ) (ts : List ℕ) (c w : ℕ) (after rest : List ℕ) → On n x d u (Node v ∷ ls) (t ∷ ts) c → Step n [] u (t ∷ (ts ++ rest)) Popped w after → Pops n x d u (t ∷ ts) c w after rest
node_pops n r x d u v ls t ts c w after rest on step =
    let here : u ≡ v.0 = ⊎_elim
    (λ is. ⊎_elim (λ null. absurd (not_null n r u v.0 t is null)) (λ own. same_node n r u u v.0 t own is) step.0)
    (λ a. a.0) on.0 in
    record {
      legs = ls;
      left = ts;
      same = step.1;
      stack = step.2;
      fewer = omega arith;
      on = rw (step.1, here) (on-from_labels n x d v.0 ls ts c on.1 (leg_over n x u v ls d c here on.2));
    }

-- crossing a next hop towards the end of a node leg
hop_crosses : (n : Net) (x : List Bool) (d u : ℕ) (v : NodeNo) (ls : List Segment) (t : ℕ) (ts : List ℕ) (c l w : ℕ) (after rest : List ℕ) → IsLabels n v.0 ls ts → IsGraph n.graph → v.0 ≢ u → Legs n x u (Node v ∷ ls) d c → w ≡ head n.graph l → IsNextHop n.graph [] u v.0 l → Crossing n v.0 (head n.graph l) (ts ++ rest) after → Crosses n x d u l (t ∷ ts) c w after rest
hop_crosses n x d u v ls t ts c l w after rest labels graph apart legs at hop cross =
    let free : is_overloaded n.graph u ≡ false = ⊎_elim (λ same. absurd (apart (sym same))) (λ clear. clear) (carries-cases n.graph v.0 u legs.7) in
    let s = sum-from_IsNextHop n.graph [] u v.0 l legs.0 legs.4 hop in
    let out : has x l ≡ false = hop-outside n.graph x u v.0 l legs.3 hop in
    let on_way : Legs n x (head n.graph l) (Node v ∷ ls) d (s.2.0 + legs.1) = (s.2.0, legs.1, legs.2, InP-hop n.graph x u v.0 l graph legs.3 hop, s.2.1, legs.5, refl, s.3) in
    ⊎_elim
    (λ popped.
    let there : head n.graph l ≡ v.0 = popped.0 in
    record {
      legs = ls;
      left = ts;
      more = s.2.0 + legs.1;
      within = s.0;
      outside = out;
      begins = s.1;
      clear = free;
      ends = at;
      stack = popped.2;
      no_more = omega arith;
      on = rw (at, there) (on-from_labels n x d v.0 ls ts (s.2.0 + legs.1) labels (leg_over n x (head n.graph l) v ls d (s.2.0 + legs.1) there on_way));
      paid = omega (arith, legs.6, s.2.2);
    })
    (λ other. ⊎_elim
    (λ null. record {
      legs = Node v ∷ ls;
      left = 0 ∷ ts;
      more = s.2.0 + legs.1;
      within = s.0;
      outside = out;
      begins = s.1;
      clear = free;
      ends = at;
      stack = null.3;
      no_more = omega arith;
      on = rw at (inr (null.0, refl), labels, on_way);
      paid = omega (arith, legs.6, s.2.2);
    })
    (λ swapped. record {
      legs = Node v ∷ ls;
      left = swapped.0 ∷ ts;
      more = s.2.0 + legs.1;
      within = s.0;
      outside = out;
      begins = s.1;
      clear = free;
      ends = at;
      stack = swapped.3;
      no_more = omega arith;
      on = rw at (inl swapped.1, labels, on_way);
      paid = omega (arith, legs.6, s.2.2);
    })
    other)
    cross

node_crosses : (n : Net) (r : IsNet n) (x : List Bool) (d u : ℕ) (v : NodeNo) (ls : List Segment) (t : ℕ) (ts : List ℕ) (c l w : ℕ) (after rest : List ℕ) → On n x d u (Node v ∷ ls) (t ∷ ts) c → (l < link_count n.graph) → (tail n.graph l ≡ u) → (w ≡ head n.graph l)
    → (((adj_at n l ≡ Some t) × (after ≡ ts ++ rest)) ⊎ ((b : ℕ) × IsLabel n u b t × (b ≢ u) × IsNextHop n.graph [] u b l × Crossing n b (head n.graph l) (ts ++ rest) after))
    → Crosses n x d u l (t ∷ ts) c w after rest
node_crosses n r x d u v ls t ts c l w after rest on within begins at how =
    ⊎_elim
    (λ adj. ⊎_elim
    (λ is. absurd (not_adj n r u v.0 t l is begins adj.0))
    (λ null. let h : 0 < t = r.adj_high l t adj.0 in absurd (omega (arith, null.1)))
    on.0)
    (λ node. ⊎_elim
    (λ is.
    let same : node.0 ≡ v.0 = same_node n r u node.0 v.0 t node.1 is in
    hop_crosses n x d u v ls t ts c l w after rest on.1 r.graph (λ e. node.2 (same ∙ e)) on.2 at
    (subst (λ b. IsNextHop n.graph [] u b l) same node.3)
    (subst (λ b. Crossing n b (head n.graph l) (ts ++ rest) after) same node.4))
    (λ null. absurd (not_null n r u node.0 t node.1 null.1))
    on.0)
    how

-- every step from such a state leads to such a state, on the way
pub step-goes : (n : Net) (r : IsNet n) (x : List Bool) (d u : ℕ) (ls : List Segment) (ts : List ℕ) (c : ℕ) (m : Move) (w : ℕ) (after rest : List ℕ) → On n x d u ls ts c → ((ts ++ rest) ≢ rest) → Step n [] u (ts ++ rest) m w after → Goes n x d u ts c m w after rest
step-goes n r x d u [] ts c m w after rest on busy step = absurd (busy (ap (λ k. k ++ rest) on.0))
step-goes n r x d u (s ∷ ls) [] c m w after rest on busy step = absurd on
step-goes n r x d u (Node v ∷ ls) (t ∷ ts) c Popped w after rest on busy step = node_pops n r x d u v ls t ts c w after rest on step
step-goes n r x d u (Node v ∷ ls) (t ∷ ts) c (Crossed l) w after rest on busy step =
    node_crosses n r x d u v ls t ts c l.0 w after rest on step.0 step.2 step.3 step.4
step-goes n r x d u (Adj k ∷ ls) (t ∷ ts) c Popped w after rest on busy step =
    let h : 0 < t = r.adj_high k.0 t on.0 in
    ⊎_elim
    (λ null. absurd (omega (arith, null)))
    (λ own. absurd (not_adj n r u u t k.0 own on.2.2 on.0))
    step.0
step-goes n r x d u (Adj k ∷ ls) (t ∷ ts) c (Crossed l) w after rest on busy step =
    ⊎_elim
    (λ adj.
    let same : k.0 ≡ l.0 = r.adj_one k.0 l.0 t on.2.1 step.0 (on.2.2 ∙ sym step.2) on.0 adj.0 in
    let there : w ≡ head n.graph k.0 = step.3 ∙ ap (λ j. head n.graph j) (sym same) in
    record {
      legs = ls;
      left = ts;
      more = on.2.0;
      within = step.0;
      outside = subst (λ j. has x j ≡ false) same on.2.3;
      begins = step.2;
      clear = on.2.6;
      ends = step.3;
      stack = adj.1;
      no_more = omega arith;
      on = rw there (on-from_labels n x d (head n.graph k.0) ls ts on.2.0 on.1 on.2.4);
      paid = subst (λ j. c ≡ metric n.graph j + on.2.0) same on.2.5;
    })
    (λ node. absurd (not_adj n r u node.0 t k.0 node.1 on.2.2 on.0))
    step.4

-- what a whole run keeps
pub record RunGoes (n : Net) (x : List Bool) (s d total : ℕ) (p : List ℕ) (ts : List ℕ) (ms : List Move) (v : ℕ) (after rest : List ℕ) : Type 0 where
  pub legs : List Segment
  pub left : List ℕ
  pub more : ℕ
  pub stack : after ≡ left ++ rest
  pub on : On n x d v legs left more
  pub walk : IsWalk n.graph x s (p ++ crossed ms) v
  pub paid : cost n.graph (p ++ crossed ms) + more ≡ total
  pub steps : length ms + length left ≤ length (crossed ms) + length ts

pub run-goes : (n : Net) (r : IsNet n) (x : List Bool) (s d total : ℕ) (p : List ℕ) (u : ℕ) (ls : List Segment) (ts : List ℕ) (c : ℕ) (stack : List ℕ) (ms : List Move) (v : ℕ) (after rest : List ℕ) → On n x d u ls ts c → IsWalk n.graph x s p u → cost n.graph p + c ≡ total → stack ≡ ts ++ rest → Run n [] rest u stack ms v after → RunGoes n x s d total p ts ms v after rest
run-goes n r x s d total p u ls ts c stack [] v after rest on walk paid is run = record {
  legs = ls;
  left = ts;
  more = c;
  stack = run.1 ∙ is;
  on = rw run.0 on;
  walk = rw (append-nil, run.0) walk;
  paid = rw append-nil paid;
  steps = omega arith;
}
run-goes n r x s d total p u ls ts c stack (Popped ∷ ms) v after rest on walk paid is run =
    let q : Pops n x d u ts c run.0 run.1 rest = step-goes n r x d u ls ts c Popped run.0 run.1 rest on (λ e. run.2 (is ∙ e)) (subst (λ k. Step n [] u k Popped run.0 run.1) is run.3) in
    let i : RunGoes n x s d total p q.left ms v after rest = run-goes n r x s d total p run.0 q.legs q.left c run.1 ms v after rest q.on (rw q.same walk) paid q.stack run.4 in
    record {
      legs = i.legs;
      left = i.left;
      more = i.more;
      stack = i.stack;
      on = i.on;
      walk = i.walk;
      paid = i.paid;
      steps = omega (arith, i.steps, q.fewer);
    }
run-goes n r x s d total p u ls ts c stack (Crossed l ∷ ms) v after rest on walk paid is run =
    let q : Crosses n x d u l.0 ts c run.0 run.1 rest = step-goes n r x d u ls ts c (Crossed l) run.0 run.1 rest on (λ e. run.2 (is ∙ e)) (subst (λ k. Step n [] u k (Crossed l) run.0 run.1) is run.3) in
    let longer : IsWalk n.graph x s (p ++ l.0 ∷ []) run.0 = IsWalk-append n.graph x s p u (l.0 ∷ []) run.0 walk (q.within, q.outside, q.begins, sym q.ends, tt) q.clear in
    let i : RunGoes n x s d total (p ++ l.0 ∷ []) q.left ms v after rest = run-goes n r x s d total (p ++ l.0 ∷ []) run.0 q.legs q.left q.more run.1 ms v after rest q.on longer (omega (arith, cost-append n.graph p (l.0 ∷ []), q.paid, paid)) q.stack run.4 in
    let e : (p ++ l.0 ∷ []) ++ crossed ms ≡ p ++ (l.0 ∷ crossed ms) = append_assoc p (l.0 ∷ []) (crossed ms) in
    record {
      legs = i.legs;
      left = i.left;
      more = i.more;
      stack = i.stack;
      on = i.on;
      walk = rw e at i.walk;
      paid = rw e at i.paid;
      steps = omega (arith, i.steps, q.no_more);
    }

pub legs-from_on : (n : Net) (x : List Bool) (d u : ℕ) (ls : List Segment) (ts : List ℕ) (c : ℕ) → On n x d u ls ts c → Legs n x u ls d c
legs-from_on n x d u [] ts c on = (on.1, on.2)
legs-from_on n x d u (s ∷ ls) [] c on = absurd on
legs-from_on n x d u (Node v ∷ ls) (t ∷ ts) c on = on.2
legs-from_on n x d u (Adj l ∷ ls) (t ∷ ts) c on = on.2

-- whatever node it leads to, a link can be crossed under a node's label
pub can_cross : (n : Net) (r : IsNet n) (u b m t : ℕ) (rest : List ℕ) → m < node_count n.graph → IsLabel n u b t → (after : List ℕ) × Crossing n b m rest after
can_cross n r u b m t rest within is =
    let there : (k : ℕ) × (label_of (labels_at n m).srgb is.0 ≡ Some k) = r.inside m b is.0 within is.1 is.2 in
    let label : IsLabel n m b there.0 = (is.0, is.1, is.2, there.1) in
    ⊎_elim
    (λ same. ⊎_elim
    (λ keep. ⊎_elim
    (λ explicit. (0 ∷ rest, inr (inl (same, keep, explicit, refl))))
    (λ plain. (there.0 ∷ rest, inr (inr (there.0, label, inr (keep, plain), refl))))
    (true_or (labels_at n b).explicit))
    (λ gone. (rest, inl (same, gone, refl)))
    (true_or (labels_at n b).keep))
    (λ apart. (there.0 ∷ rest, inr (inr (there.0, label, inl apart, refl))))
    (cases_eq m b)

hop_of : (g : Graph) (u v : ℕ) → u ≢ v → (p : List ℕ) → IsShortest g [] u p v → (l : ℕ) × IsNextHop g [] u v l
hop_of g u v apart [] s = absurd (apart s.0)
hop_of g u v apart (l ∷ p) s = (l, record { more = p; shortest = s })

-- a shortest walk that is not over has a first link
pub first_hop : (g : Graph) (u v e : ℕ) → u ≢ v → IsDistance g [] u v e → (l : ℕ) × IsNextHop g [] u v l
first_hop g u v e apart d = hop_of g u v apart d.reached.0 (IsShortest-from_cost g [] u v e d.reached.0 d d.reached.1 d.reached.2)

-- where labels are left, there is a step
pub on-goes_on : (n : Net) (r : IsNet n) (x : List Bool) (d u : ℕ) (ls : List Segment) (ts : List ℕ) (c : ℕ) (rest : List ℕ) → On n x d u ls ts c → ((ls ≡ []) × (ts ≡ []) × (u ≡ d)) ⊎ ((0 < length ts) × (m : Move) × (w : ℕ) × (next : List ℕ) × Step n [] u (ts ++ rest) m w next)
on-goes_on n r x d u [] ts c rest on = inl (refl, on.0, on.1)
on-goes_on n r x d u (s ∷ ls) [] c rest on = absurd on
on-goes_on n r x d u (Node v ∷ ls) (t ∷ ts) c rest on =
    inr (⊎_elim
    (λ is. ⊎_elim
    (λ same. (omega arith, Popped, u, ts ++ rest, (inr (subst (λ k. IsLabel n u k t) (sym same) is), refl, refl)))
    (λ apart.
    let hop : (l : ℕ) × IsNextHop n.graph [] u v.0 l = first_hop n.graph u v.0 on.2.0 apart on.2.4 in
    let within : hop.0 < link_count n.graph = hop.1.shortest.0.0 in
    let k : IsLink n.graph (link_at n.graph hop.0) = r.graph.each hop.0 within in
    let after : (after : List ℕ) × Crossing n v.0 (head n.graph hop.0) (ts ++ rest) after = can_cross n r u v.0 (head n.graph hop.0) t (ts ++ rest) k.1 is in
    (omega arith, Crossed (record { 0 = hop.0 }), head n.graph hop.0, after.0, (within, refl, hop.1.shortest.0.2, refl, inr (v.0, is, (λ e. apart (sym e)), hop.1, after.1))))
    (cases_eq u v.0))
    (λ null. (omega arith, Popped, u, ts ++ rest, (inl null.1, refl, refl)))
    on.0)
on-goes_on n r x d u (Adj l ∷ ls) (t ∷ ts) c rest on =
    inr (omega arith, Crossed l, head n.graph l.0, ts ++ rest, (on.2.1, refl, on.2.2, refl, inl (on.0, refl)))

-- the stack of a sound list is that of its legs, past the first link
start-on : (n : Net) (x : List Bool) (d first : ℕ) (ss : List Segment) (labels : List ℕ) (w c e : ℕ) → d < node_count n.graph → Routes n x (head n.graph first) ss w c → carries n.graph d w ≡ true → InP n.graph x w d → IsDistance n.graph [] w d e → IsStack n d first ss labels → (ls : List Segment) × On n x d (head n.graph first) ls labels (c + e)
start-on n x d first (s ∷ ss) labels w c e within leads free inside rest stack =
    (s ∷ ss ++ Node (record { 0 = d }) ∷ [], on-from_labels n x d (head n.graph first) (s ∷ ss ++ Node (record { 0 = d }) ∷ []) labels (c + e) stack (legs-from_routes n x (head n.graph first) (s ∷ ss) w d c e within leads free inside rest))
start-on n x d first [] labels w c e within leads free inside rest stack =
    let legs : Legs n x (head n.graph first) (Node (record { 0 = d }) ∷ []) d (c + e) = legs-from_routes n x (head n.graph first) [] w d c e within leads free inside rest in
    ⊎_elim
    (λ popped.
    let over : Legs n x d [] d (c + e) = leg_over n x (head n.graph first) (record { 0 = d }) [] d (c + e) popped.0 legs in
    ([], (popped.2, popped.0, over.1)))
    (λ other. ⊎_elim
    (λ null. (Node (record { 0 = d }) ∷ [], rw null.3 ((inr (null.0, refl), refl, legs))))
    (λ swapped. (Node (record { 0 = d }) ∷ [], rw swapped.3 (inl swapped.1, refl, legs)))
    other)
    stack

-- labels over the rest are more than the rest
longer_than : (after left rest : List ℕ) → after ≡ left ++ rest → 0 < length left → after ≡ rest → ⊥
longer_than after left rest is some e = omega (arith, ap length (sym is ∙ e), length-append left rest)

enough : (n l c : ℕ) → c < n → c + l ≤ n * (l + 2)
enough n l c h = grind arith

-- every sound list delivers
pub sound-delivers : (n : Net) → IsNet n → (x : List Bool) (s d : ℕ) (a : Path) (labels : List ℕ) → s < node_count n.graph → d < node_count n.graph → IsSound n x s d a → IsStack n d a.first a.segments labels → Delivers n x s d a.first labels
sound-delivers n r x s d a labels source within is stack rest ms v after run =
    let sound : IsRouted n x s d a = routed-from_sound n x s d a r.graph is in
    let begin : (ls : List Segment) × On n x d (head n.graph a.first) ls labels (sound.middle + sound.rest) = start-on n x d a.first a.segments labels sound.last sound.middle sound.rest within sound.leads sound.free sound.ends sound.goes_on stack in
    let walk : IsWalk n.graph x s (a.first ∷ []) (head n.graph a.first) = (sound.within, sound.outside, sound.begins, refl, tt) in
    let q : RunGoes n x s d (metric n.graph a.first + sound.middle + sound.rest) (a.first ∷ []) labels ms v after rest =
    run-goes n r x s d (metric n.graph a.first + sound.middle + sound.rest) (a.first ∷ []) (head n.graph a.first) begin.0 labels (sound.middle + sound.rest) (labels ++ rest) ms v after rest begin.1 walk (omega arith) refl run in
    let more = legs-walk n x v q.legs d q.more (legs-from_on n x d v q.legs q.left q.more q.on) in
    let whole : IsShortest n.graph x s ((a.first ∷ crossed ms) ++ more.0) d =
    IsShortest-from_cost n.graph x s d (metric n.graph a.first + sound.middle + sound.rest) ((a.first ∷ crossed ms) ++ more.0) sound.fits
    (IsWalk-append n.graph x s (a.first ∷ crossed ms) v more.0 d q.walk more.1 more.3)
    (omega (arith, cost-append n.graph (a.first ∷ crossed ms) more.0, q.paid, more.2)) in
    let short : length ((a.first ∷ crossed ms) ++ more.0) < node_count n.graph = shortest-length n.graph x s ((a.first ∷ crossed ms) ++ more.0) d r.graph source whole in
    record {
      ends = ⊎_elim
          (λ over. inl (over.2, rw (q.stack, over.1) refl))
          (λ step. inr ((λ e. let some : 0 < length q.left = step.0 in longer_than after q.left rest q.stack some e), step.1, step.2, step.3, rw q.stack step.4))
          (on-goes_on n r x d v q.legs q.left q.more rest q.on);
      along = (more.0, whole);
      few =
          let count : length ms ≤ length (crossed ms) + length labels = omega (arith, q.steps) in
          let links : length (crossed ms) < node_count n.graph = omega (arith, length-append (crossed ms) more.0) in
          omega (arith, enough (node_count n.graph) (length labels) (length (crossed ms)) links);
    }

-- each step but for one a label crosses a link, and the links crossed lead to where the packet is
pub record RunCounts (n : Net) (x : List Bool) (s first : ℕ) (labels : List ℕ) (ms : List Move) (v : ℕ) : Type 0 where
  pub steps : length ms ≤ length (crossed ms) + length labels
  pub walk : IsWalk n.graph x s (first ∷ crossed ms) v

pub sound-counts : (n : Net) → IsNet n → (x : List Bool) (s d : ℕ) (a : Path) (labels : List ℕ) → d < node_count n.graph → IsSound n x s d a → IsStack n d a.first a.segments labels → (rest : List ℕ) (ms : List Move) (v : ℕ) (after : List ℕ) → Run n [] rest (head n.graph a.first) (labels ++ rest) ms v after → RunCounts n x s a.first labels ms v
sound-counts n r x s d a labels within is stack rest ms v after run =
    let sound : IsRouted n x s d a = routed-from_sound n x s d a r.graph is in
    let begin : (ls : List Segment) × On n x d (head n.graph a.first) ls labels (sound.middle + sound.rest) = start-on n x d a.first a.segments labels sound.last sound.middle sound.rest within sound.leads sound.free sound.ends sound.goes_on stack in
    let walk : IsWalk n.graph x s (a.first ∷ []) (head n.graph a.first) = (sound.within, sound.outside, sound.begins, refl, tt) in
    let q : RunGoes n x s d (metric n.graph a.first + sound.middle + sound.rest) (a.first ∷ []) labels ms v after rest =
    run-goes n r x s d (metric n.graph a.first + sound.middle + sound.rest) (a.first ∷ []) (head n.graph a.first) begin.0 labels (sound.middle + sound.rest) (labels ++ rest) ms v after rest begin.1 walk (omega arith) refl run in
    record { steps = omega (arith, q.steps); walk = q.walk }

-- and no run meets a node twice
pub sound-meets : (n : Net) → IsNet n → (x : List Bool) (s d : ℕ) (a : Path) (labels : List ℕ) → s < node_count n.graph → d < node_count n.graph → IsSound n x s d a → IsStack n d a.first a.segments labels → (rest : List ℕ) (ms : List Move) (v : ℕ) (after : List ℕ) → Run n [] rest (head n.graph a.first) (labels ++ rest) ms v after → AreDistinct (s ∷ stops n.graph (a.first ∷ crossed ms))
sound-meets n r x s d a labels source within is stack rest ms v after run =
    let good : RunsWell n x s d a.first labels rest ms v after = sound-delivers n r x s d a labels source within is stack rest ms v after run in
    let part = shortest-cut n.graph x s (a.first ∷ crossed ms) good.along.0 d good.along.1 in
    shortest-distinct n.graph x s (a.first ∷ crossed ms) part.0 r.graph part.1
