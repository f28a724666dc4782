-- Sound lists that outlast a change of links.
use Rattle.std.proofs.Common.{◌≡◌, ◌≢◌, ℕ, ◌+◌, ◌<◌, ⊎_elim, Bool, false, true, List, [], ◌∷◌, ◌++◌, refl, arith, ap, sym, ◌∙◌, subst}
use Rattle.std.specs.Prelude.{slice_index, is_some}
use Rattle.std.proofs.lemmas.Bool.{cases_lt}
use Rattle.std.proofs.lemmas.List.Elements.{All-nil, All-cons, All-head, All-tail}
use Rattle.sr_model.specs.Graph.{Graph, IsGraph, IsLink, carries, has, head, link_at, link_count, metric, node_count, tail}
use Rattle.sr_model.specs.Label.{Net, adj_at, labels_at}
use Rattle.sr_model.specs.Repair.{IsSound, Path}
use Rattle.sr_model.specs.Space.{Avoids, InP}
use Rattle.sr_model.specs.Walk.{IsDistance, IsRow, IsShortest, IsWalk, Passes, cost}
use Rattle.sr_model.specs.declared.link.TheConstants.{FAR}
use Rattle.sr_model.specs.declared.repair.Segment.{Segment}
use Rattle.sr_model.specs.declared.repair.Segment.TheVariants.{Adj, Node}
use Rattle.sr_walks.proofs.Walks.{IsWalk-append, cost-append, carries-clear, passes-clear, passes-join, Begins, begins-self, begins-passes}
use Rattle.sr_walks.proofs.Distances.{distance-self, distance-unique, distance-from_shortest, IsShortest-from_cost}
use Rattle.sr_laws.specs.Steady.{KeepsStep}
use Rattle.sr_laws.proofs.Waypoints.{Routes, IsRouted, routed-from_sound, sound-from_routed, space-walk, last-walk}
use Rattle.sr_laws.proofs.Exact.{routes-walk, distance-before}
use Rattle.sr_walks.proofs.Rows.{Keeps, AreLike, AgreeOnLoad, carries-agree, way-kept}

-- alike links are in both sets or in neither
abbrev pub Agrees : Graph → List Bool → Graph → List Bool → Type 0
Agrees g x h y = (l k : ℕ) → l < link_count g → k < link_count h → link_at h k ≡ link_at g l → has x l ≡ has y k

like-avoids : (g : Graph) (x : List Bool) (h : Graph) (y : List Bool) → Agrees g x h y → (w : ℕ) (p : List ℕ) (v : ℕ) (z : ℕ) (q : List ℕ) (o : ℕ) → IsWalk g [] w p v → IsWalk h [] z q o → AreLike h g q p → Avoids x p → Avoids y q
like-avoids g x h y same w p v z [] o a b like avoids = All-nil (λ k. has y k ≡ false)
like-avoids g x h y same w [] v z (k ∷ q) o a b like avoids = absurd like
like-avoids g x h y same w (l ∷ p) v z (k ∷ q) o a b like avoids =
    All-cons (λ j. has y j ≡ false) k q
    (sym (same l k a.0 b.0 (sym like.0)) ∙ All-head (λ j. has x j ≡ false) l p avoids)
    (like-avoids g x h y same (head g l) p v (head h k) q o a.3 b.3 like.1 (All-tail (λ j. has x j ≡ false) l p avoids))

-- a distance is in the row
pub in_row : (g : Graph) (x : List Bool) (u v c : ℕ) (cells : List ℕ) → IsRow g x u cells → v < node_count g → IsDistance g x u v c → (slice_index cells v < FAR) × (slice_index cells v ≡ c)
in_row g x u v c cells row within d =
    ⊎_elim
    (λ near. (near, distance-unique g x u v _ c ((row.each v within).near near) d))
    (λ far. absurd ((row.each v within).far far d.reached.0 d.reached.1))
    (cases_lt (slice_index cells v) FAR)

-- the tree of u is that of both graphs
pub record TreeStays (g h : Graph) (u : ℕ) : Type 0 where
  pub cells : List ℕ
  pub old : IsRow g [] u cells
  pub new : IsRow h [] u cells
  pub there : Keeps g [] h [] cells
  pub back : Keeps h [] g [] cells

pub tree-sym : (g h : Graph) (u : ℕ) → TreeStays g h u → TreeStays h g u
tree-sym g h u t = record { cells = t.cells; old = t.new; new = t.old; there = t.back; back = t.there }

pub distance-stays : (g h : Graph) (u v c : ℕ) → TreeStays g h u → node_count h ≡ node_count g → v < node_count g → IsDistance g [] u v c → IsDistance h [] u v c
distance-stays g h u v c t nodes within d =
    let i : (slice_index t.cells v < FAR) × (slice_index t.cells v ≡ c) = in_row g [] u v c t.cells t.old within d in
    subst (λ k. IsDistance h [] u v k) i.1 ((t.new.each v (omega (arith, nodes))).near i.0)

-- and so is P of u
pub InP-stays : (g : Graph) (x : List Bool) (h : Graph) (y : List Bool) (u v : ℕ) → IsGraph h → AgreeOnLoad h g → TreeStays g h u → node_count h ≡ node_count g → Agrees g x h y → u < node_count g → v < node_count g → InP g x u v → InP h y u v
InP-stays g x h y u v graph agree t nodes same at within inside =
    let near : slice_index t.cells v < FAR = ⊎_elim (λ n. n) (λ far. absurd ((t.old.each v within).far far inside.reached.0 inside.reached.1)) (cases_lt (slice_index t.cells v) FAR) in
    let old : IsDistance g [] u v (slice_index t.cells v) = (t.old.each v within).near near in
    let new : IsDistance h [] u v (slice_index t.cells v) = (t.new.each v (omega (arith, nodes))).near near in
    let own : (slice_index t.cells u < FAR) × (slice_index t.cells u ≡ 0) = in_row g [] u u 0 t.cells t.old at (record { reached = ([], refl, refl); least = λ p a. omega arith }) in
    record {
      reached = (new.reached.0, new.reached.1);
      avoids = λ q s.
          let e : cost h q ≡ slice_index t.cells v = distance-unique h [] u v _ _ (distance-from_shortest h [] u v q s) new in
          let r : (p : List ℕ) × IsWalk g [] u p v × (cost g p ≡ cost h q) × AreLike h g q p = way-kept h [] g [] u t.cells graph t.new t.back agree u q v s.0 (begins-self h u q) own.0 (omega (arith, own.1)) in
          let shortest : IsShortest g [] u r.0 v = IsShortest-from_cost g [] u v (slice_index t.cells v) r.0 old r.1 (r.2 ∙ e) in
          like-avoids g x h y same u r.0 v u q v r.1 s.0 r.3 (inside.avoids r.0 shortest);
    }

-- a step from a node whose tree stays
pub step-by_tree : (g : Graph) (x : List Bool) (h : Graph) (y : List Bool) (s u v : ℕ) → IsGraph h → AgreeOnLoad h g → TreeStays g h u → node_count h ≡ node_count g → Agrees g x h y → u < node_count g → v < node_count g → KeepsStep g x h y s u v
step-by_tree g x h y s u v graph agree t nodes same at within a e above far whole carry inside goes =
    (InP-stays g x h y u v graph agree t nodes same at within inside, distance-stays g h u v e t nodes within goes)

-- a node with a distance above 0 isn't the source
not-source : (g : Graph) (x : List Bool) (s u a : ℕ) → 0 < a → IsDistance g x s u a → u ≢ s
not-source g x s u a above far e =
    let zero : a ≡ 0 = distance-unique g x s s a 0 (subst (λ k. IsDistance g x s k a) e far) (distance-self g x s) in
    absurd (omega (arith, zero, above))

-- w stands on a shortest walk without x from s to d: the sum is right, and w is s, or d, or isn't overloaded
pub record OnWay (g : Graph) (x : List Bool) (s d w : ℕ) : Type 0 where
  pub far : ℕ
  pub rest : ℕ
  pub to : IsDistance g x s w far
  pub from : (p : List ℕ) × IsWalk g x w p d × (cost g p ≡ rest) × Begins g s w p
  pub whole : IsDistance g x s d (far + rest)

-- what a case that stays has, for one destination
pub record Stays (n : Net) (x : List Bool) (m : Net) (y : List Bool) (s d : ℕ) (post : List ℕ) : Type 0 where
  pub graph : IsGraph n.graph
  pub graph' : IsGraph m.graph
  pub nodes : node_count m.graph ≡ node_count n.graph
  pub agree : AgreeOnLoad n.graph m.graph
  pub source : s < node_count n.graph
  pub row : IsRow n.graph x s post
  pub row' : IsRow m.graph y s post
  pub there : Keeps n.graph x m.graph y post
  pub back : Keeps m.graph y n.graph x post
  pub same : Agrees n.graph x m.graph y
  pub steps : (u v : ℕ) → u < node_count n.graph → v < node_count n.graph → OnWay n.graph x s d u → OnWay n.graph x s d v → u ≢ s → KeepsStep n.graph x m.graph y s u v × KeepsStep m.graph y n.graph x s u v
  pub index : (w : ℕ) → w < node_count n.graph → OnWay n.graph x s d w → (labels_at n w).index ≡ (labels_at m w).index
  pub adj : (l k : ℕ) → l < link_count n.graph → k < link_count m.graph → OnWay n.graph x s d (tail n.graph l) → link_at m.graph k ≡ link_at n.graph l → adj_at n l ≡ adj_at m k

-- link l of g and link k of h are the same
abbrev pub AreLinksAlike : Graph → Graph → ℕ → ℕ → Type 0
AreLinksAlike g h l k = (l < link_count g) × (k < link_count h) × (link_at h k ≡ link_at g l)

-- the lists have the same nodes, and links that are alike, in the same order
abbrev pub AreSegmentsAlike : Graph → Graph → List Segment → List Segment → Type 0
AreSegmentsAlike g h [] ts = ts ≡ []
AreSegmentsAlike g h (Node v ∷ ss) [] = ⊥
AreSegmentsAlike g h (Node v ∷ ss) (Node w ∷ ts) = (v ≡ w) × AreSegmentsAlike g h ss ts
AreSegmentsAlike g h (Node v ∷ ss) (Adj k ∷ ts) = ⊥
AreSegmentsAlike g h (Adj l ∷ ss) [] = ⊥
AreSegmentsAlike g h (Adj l ∷ ss) (Node w ∷ ts) = ⊥
AreSegmentsAlike g h (Adj l ∷ ss) (Adj k ∷ ts) = AreLinksAlike g h l.0 k.0 × AreSegmentsAlike g h ss ts

-- a link at the row's distances has its like
link-kept : (g : Graph) (x : List Bool) (h : Graph) (y : List Bool) (s : ℕ) (post : List ℕ) (l a : ℕ) → IsGraph g → IsRow g x s post → Keeps g x h y post → l < link_count g → has x l ≡ false → IsDistance g x s (tail g l) a → IsDistance g x s (head g l) (a + metric g l) → (k : ℕ) × (k < link_count h) × (has y k ≡ false) × (link_at h k ≡ link_at g l)
link-kept g x h y s post l a graph row keeps within outside d e =
    let k : IsLink g (link_at g l) = graph.each l within in
    let from : (slice_index post (tail g l) < FAR) × (slice_index post (tail g l) ≡ a) = in_row g x s (tail g l) a post row k.0 d in
    let to : (slice_index post (head g l) < FAR) × (slice_index post (head g l) ≡ a + metric g l) = in_row g x s (head g l) (a + metric g l) post row k.1 e in
    ⊎_elim (λ kept. kept) (λ idle. absurd (⊎_elim (λ far. omega (arith, far)) (λ more. omega (arith, more.1)) idle)) (keeps l within outside)

leads-kept : (n : Net) (x : List Bool) (m : Net) (y : List Bool) (s d : ℕ) (post : List ℕ) → Stays n x m y s d post → (u a : ℕ) (ss : List Segment) (w c e : ℕ) → 0 < a → u < node_count n.graph → IsDistance n.graph x s u a → Routes n x u ss w c → carries n.graph d w ≡ true → InP n.graph x w d → IsDistance n.graph [] w d e → IsDistance n.graph x s d (a + (c + e)) → (ts : List Segment) × AreSegmentsAlike n.graph m.graph ss ts × Routes m y u ts w c
leads-kept n x m y s d post st u a [] w c e above at far leads free ends goes whole = ([], refl, leads)
leads-kept n x m y s d post st u a (Node v ∷ ss) w c e above at far leads free ends goes whole =
    let q = last-walk n.graph x w d e free ends goes in
    let p = routes-walk n x v.0 ss w leads.1 leads.7 in
    let hop = space-walk n.graph x u v.0 leads.0 leads.5 leads.6 in
    let after : IsWalk n.graph x v.0 (p.0 ++ q.0) d = IsWalk-append n.graph x v.0 p.0 w q.0 d p.1 q.1 q.3 in
    let pass : Passes n.graph v.0 (p.0 ++ q.0) = passes-join n.graph x v.0 p.0 w q.0 p.1 p.3 q.3 in
    let after_cost : cost n.graph (p.0 ++ q.0) ≡ leads.1 + e = omega (arith, cost-append n.graph p.0 q.0, p.2, q.2) in
    let whole' : IsDistance n.graph x s d ((a + leads.0) + (leads.1 + e)) = subst (λ k. IsDistance n.graph x s d k) (omega (arith, leads.8)) whole in
    let far' : IsDistance n.graph x s v.0 (a + leads.0) =
    distance-before n.graph x s v.0 d (a + leads.0) (leads.1 + e) (far.reached.0 ++ hop.0) (IsWalk-append n.graph x s far.reached.0 u hop.0 v.0 far.reached.1 hop.1 (passes-clear n.graph u hop.0 leads.9)) (omega (arith, cost-append n.graph far.reached.0 hop.0, far.reached.2, hop.2)) (p.0 ++ q.0) after after_cost pass whole' in
    let on_u : OnWay n.graph x s d u = record {
      far = a;
      rest = leads.0 + (leads.1 + e);
      to = far;
      from = (hop.0 ++ (p.0 ++ q.0), IsWalk-append n.graph x u hop.0 v.0 (p.0 ++ q.0) d hop.1 after pass, omega (arith, cost-append n.graph hop.0 (p.0 ++ q.0), hop.2, after_cost), begins-passes n.graph s u (hop.0 ++ (p.0 ++ q.0)) (passes-clear n.graph u (hop.0 ++ (p.0 ++ q.0)) leads.9));
      whole = subst (λ k. IsDistance n.graph x s d k) (omega arith) whole';
    } in
    let on_v : OnWay n.graph x s d v.0 = record { far = a + leads.0; rest = leads.1 + e; to = far'; from = (p.0 ++ q.0, after, after_cost, begins-passes n.graph s v.0 (p.0 ++ q.0) pass); whole = whole' } in
    let step = (st.steps u v.0 at leads.3 on_u on_v (not-source n.graph x s u a above far)).0 a leads.0 above far far' (carries-clear n.graph v.0 u leads.9) leads.5 leads.6 in
    let r = leads-kept n x m y s d post st v.0 (a + leads.0) ss w leads.1 e (omega (arith, above)) leads.3 far' leads.7 free ends goes whole' in (
      Node v ∷ r.0,
      (refl, r.1),
      (
        leads.0,
        leads.1,
        subst (λ o. is_some o ≡ true) (st.index v.0 leads.3 on_v) leads.2,
        omega (arith, st.nodes, leads.3),
        leads.4,
        step.0,
        step.1,
        r.2,
        leads.8,
        sym (st.agree u at) ∙ leads.9,
      ),
    )
leads-kept n x m y s d post st u a (Adj l ∷ ss) w c e above at far leads free ends goes whole =
    let q = last-walk n.graph x w d e free ends goes in
    let p = routes-walk n x (head n.graph l.0) ss w leads.0 leads.5 in
    let after : IsWalk n.graph x (head n.graph l.0) (p.0 ++ q.0) d = IsWalk-append n.graph x (head n.graph l.0) p.0 w q.0 d p.1 q.1 q.3 in
    let pass : Passes n.graph (head n.graph l.0) (p.0 ++ q.0) = passes-join n.graph x (head n.graph l.0) p.0 w q.0 p.1 p.3 q.3 in
    let after_cost : cost n.graph (p.0 ++ q.0) ≡ leads.0 + e = omega (arith, cost-append n.graph p.0 q.0, p.2, q.2) in
    let whole' : IsDistance n.graph x s d ((a + metric n.graph l.0) + (leads.0 + e)) = subst (λ k. IsDistance n.graph x s d k) (omega (arith, leads.6)) whole in
    let begins : tail n.graph l.0 ≡ u = leads.2 in
    let hop : IsWalk n.graph x u (l.0 ∷ []) (head n.graph l.0) = (leads.1, leads.3, begins, refl, tt) in
    let far' : IsDistance n.graph x s (head n.graph l.0) (a + metric n.graph l.0) =
    distance-before n.graph x s (head n.graph l.0) d (a + metric n.graph l.0) (leads.0 + e) (far.reached.0 ++ l.0 ∷ []) (IsWalk-append n.graph x s far.reached.0 u (l.0 ∷ []) (head n.graph l.0) far.reached.1 hop leads.7) (omega (arith, cost-append n.graph far.reached.0 (l.0 ∷ []), far.reached.2)) (p.0 ++ q.0) after after_cost pass whole' in
    let on_u : OnWay n.graph x s d u = record {
      far = a;
      rest = metric n.graph l.0 + (leads.0 + e);
      to = far;
      from = (l.0 ∷ (p.0 ++ q.0), (leads.1, leads.3, begins, after, pass), omega (arith, after_cost), carries-clear n.graph s u leads.7);
      whole = subst (λ k. IsDistance n.graph x s d k) (omega arith) whole';
    } in
    let inside : IsLink n.graph (link_at n.graph l.0) = st.graph.each l.0 leads.1 in
    let kept = link-kept n.graph x m.graph y s post l.0 a st.graph st.row st.there leads.1 leads.3 (rw begins far) far' in
    let to : head m.graph kept.0 ≡ head n.graph l.0 = ap (λ k. k.to.0) kept.3 in
    let from : tail m.graph kept.0 ≡ tail n.graph l.0 = ap (λ k. k.from.0) kept.3 in
    let cost_same : metric m.graph kept.0 ≡ metric n.graph l.0 = ap (λ k. k.metric) kept.3 in
    let r = leads-kept n x m y s d post st (head n.graph l.0) (a + metric n.graph l.0) ss w leads.0 e (omega (arith, above)) inside.1 far' leads.5 free ends goes whole' in
    let label : adj_at n l.0 ≡ adj_at m kept.0 = st.adj l.0 kept.0 leads.1 kept.1 (rw begins on_u) kept.3 in (
      Adj (record { 0 = kept.0 }) ∷ r.0,
      ((leads.1, kept.1, kept.3), r.1),
      (leads.0, kept.1, from ∙ begins, kept.2, subst (λ o. is_some o ≡ true) label leads.4, rw to r.2, omega (arith, leads.6), sym (st.agree u at) ∙ leads.7),
    )

leads-within : (n : Net) (x : List Bool) (u : ℕ) (ss : List Segment) (w c : ℕ) → IsGraph n.graph → u < node_count n.graph → Routes n x u ss w c → w < node_count n.graph
leads-within n x u [] w c g at a = rw (← a.0) at
leads-within n x u (Node v ∷ ss) w c g at a = leads-within n x v.0 ss w a.1 g a.3 a.7
leads-within n x u (Adj l ∷ ss) w c g at a = leads-within n x (head n.graph l.0) ss w a.0 g ((g.each l.0 a.1).1) a.5

-- a list and its like
routed-kept : (n : Net) (x : List Bool) (m : Net) (y : List Bool) (s d : ℕ) (post : List ℕ) → Stays n x m y s d post → d < node_count n.graph → (a : Path) → IsRouted n x s d a → (b : Path) × IsRouted m y s d b × AreLinksAlike n.graph m.graph a.first b.first × AreSegmentsAlike n.graph m.graph a.segments b.segments
routed-kept n x m y s d post st within a i =
    let k : IsLink n.graph (link_at n.graph a.first) = st.graph.each a.first i.within in
    let p = routes-walk n x (head n.graph a.first) a.segments i.last i.middle i.leads in
    let q = last-walk n.graph x i.last d i.rest i.free i.ends i.goes_on in
    let after : IsWalk n.graph x (head n.graph a.first) (p.0 ++ q.0) d = IsWalk-append n.graph x (head n.graph a.first) p.0 i.last q.0 d p.1 q.1 q.3 in
    let pass : Passes n.graph (head n.graph a.first) (p.0 ++ q.0) = passes-join n.graph x (head n.graph a.first) p.0 i.last q.0 p.1 p.3 q.3 in
    let after_cost : cost n.graph (p.0 ++ q.0) ≡ i.middle + i.rest = omega (arith, cost-append n.graph p.0 q.0, p.2, q.2) in
    let whole : IsDistance n.graph x s d (metric n.graph a.first + (i.middle + i.rest)) = subst (λ j. IsDistance n.graph x s d j) (omega arith) i.fits in
    let first_far : IsDistance n.graph x s (head n.graph a.first) (metric n.graph a.first) =
    distance-before n.graph x s (head n.graph a.first) d (metric n.graph a.first) (i.middle + i.rest) (a.first ∷ []) (i.within, i.outside, i.begins, refl, tt) (omega arith) (p.0 ++ q.0) after after_cost pass whole in
    let own : IsDistance n.graph x s s 0 = record { reached = ([], refl, refl); least = λ o f. omega arith } in
    let kept = link-kept n.graph x m.graph y s post a.first 0 st.graph st.row st.there i.within i.outside (rw i.begins own) (subst (λ j. IsDistance n.graph x s (head n.graph a.first) j) (omega arith) first_far) in
    let to : head m.graph kept.0 ≡ head n.graph a.first = ap (λ j. j.to.0) kept.3 in
    let from : tail m.graph kept.0 ≡ tail n.graph a.first = ap (λ j. j.from.0) kept.3 in
    let same_cost : metric m.graph kept.0 ≡ metric n.graph a.first = ap (λ j. j.metric) kept.3 in
    let r = leads-kept n x m y s d post st (head n.graph a.first) (metric n.graph a.first) a.segments i.last i.middle i.rest k.2 k.1 first_far i.leads i.free i.ends i.goes_on whole in
    let last_within : i.last < node_count n.graph = leads-within n x (head n.graph a.first) a.segments i.last i.middle st.graph k.1 i.leads in
    let last_far : IsDistance n.graph x s i.last (metric n.graph a.first + i.middle) =
    distance-before n.graph x s i.last d (metric n.graph a.first + i.middle) i.rest (a.first ∷ p.0) (i.within, i.outside, i.begins, p.1, p.3) (omega (arith, p.2)) q.0 q.1 q.2 q.3 i.fits in
    let on_last : OnWay n.graph x s d i.last = record { far = metric n.graph a.first + i.middle; rest = i.rest; to = last_far; from = (q.0, q.1, q.2, begins-passes n.graph s i.last q.0 q.3); whole = i.fits } in
    let on_d : OnWay n.graph x s d d = record { far = metric n.graph a.first + i.middle + i.rest; rest = 0; to = i.fits; from = ([], refl, refl, begins-passes n.graph s d [] tt); whole = subst (λ j. IsDistance n.graph x s d j) (omega arith) i.fits } in
    let above : 0 < metric n.graph a.first + i.middle = omega (arith, k.2) in
    let step = (st.steps i.last d last_within within on_last on_d (not-source n.graph x s i.last (metric n.graph a.first + i.middle) above last_far)).0 (metric n.graph a.first + i.middle) i.rest above last_far i.fits i.free i.ends i.goes_on in
    let d_row : (slice_index post d < FAR) × (slice_index post d ≡ metric n.graph a.first + i.middle + i.rest) = in_row n.graph x s d _ post st.row within i.fits in (
      record { first = kept.0; segments = r.0 },
      record {
        within = kept.1;
        begins = from ∙ i.begins;
        outside = kept.2;
        last = i.last;
        middle = i.middle;
        rest = i.rest;
        leads = rw to r.2;
        free = sym (carries-agree n.graph m.graph st.agree d i.last last_within) ∙ i.free;
        ends = step.0;
        goes_on = step.1;
        fits = subst (λ j. IsDistance m.graph y s d j) (omega (arith, d_row.1)) ((st.row'.each d (omega (arith, st.nodes))).near d_row.0);
      },
      (i.within, kept.1, kept.3),
      r.1,
    )

-- a sound list has its like
pub sound-kept : (n : Net) (x : List Bool) (m : Net) (y : List Bool) (s d : ℕ) (post : List ℕ) → Stays n x m y s d post → d < node_count n.graph → (a : Path) → IsSound n x s d a → (b : Path) × IsSound m y s d b × AreLinksAlike n.graph m.graph a.first b.first × AreSegmentsAlike n.graph m.graph a.segments b.segments
sound-kept n x m y s d post st within a i =
    let b = routed-kept n x m y s d post st within a (routed-from_sound n x s d a st.graph i) in
    (b.0, sound-from_routed m y s d b.0 b.1, b.2, b.3)
