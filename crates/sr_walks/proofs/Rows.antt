-- Rows of distances that outlast a change of links.
use Rattle.std.proofs.Common.{◌≡◌, ℕ, suc, ◌+◌, ◌<◌, ◌≤◌, ◌⊎◌, ⊎_elim, Bool, true, false, cond, List, [], ◌∷◌, length, refl, arith, ap, sym, ◌∙◌, subst}
use Rattle.std.specs.Prelude.{slice_index, slice_index_or, ◌==◌, not}
use Rattle.std.proofs.lemmas.Bool.{cases_lt}
use Rattle.std.proofs.lemmas.List.{get_or_past}
use Rattle.sr_model.specs.Graph.{Graph, IsGraph, IsLink, carries, has, head, is_overloaded, link_at, link_count, metric, node_count, tail}
use Rattle.sr_model.specs.Walk.{IsCell, IsDistance, IsRow, IsWalk, Passes, cost}
use Rattle.sr_model.specs.declared.link.TheConstants.{FAR}
use Rattle.sr_walks.proofs.Walks.{IsWalk-reach, Begins, begins-self, begins-passes, IsStable, stable-cost, stable-near}
use Rattle.sr_walks.proofs.Distances.{distance-unique, distance-self}

-- lists with the same entries are the same
pub list-same : {A : Type 0} (d : A) (xs ys : List A) → length xs ≡ length ys → ((k : ℕ) → k < length xs → slice_index_or xs k d ≡ slice_index_or ys k d) → xs ≡ ys
list-same d [] [] e h = refl
list-same d [] (y ∷ ys) e h = absurd (omega (arith, e))
list-same d (x ∷ xs) [] e h = absurd (omega (arith, e))
list-same d (x ∷ xs) (y ∷ ys) e h =
    let first : x ≡ y = h 0 (omega arith) in
    let rest : xs ≡ ys = list-same d xs ys (omega (arith, e)) (λ k lt. h (suc k) (omega arith)) in
    cc

-- there is at most one row of distances
pub row-one : (g : Graph) (x : List Bool) (u : ℕ) (a b : List ℕ) → IsRow g x u a → IsRow g x u b → a ≡ b
row-one g x u a b p q =
    list-same 0 a b (p.long ∙ sym q.long) (λ v lt.
    let within : v < node_count g = omega (arith, p.long) in
    let pc = p.each v within in
    let qc = q.each v within in
    ⊎_elim
    (λ near. ⊎_elim
    (λ near'. distance-unique g x u v (slice_index a v) (slice_index b v) (pc.near near) (qc.near near'))
    (λ far'. absurd (qc.far far' (pc.near near).reached.0 (pc.near near).reached.1))
    (cases_lt (slice_index b v) FAR))
    (λ far. ⊎_elim
    (λ near'. absurd (pc.far far (qc.near near').reached.0 (qc.near near').reached.1))
    (λ far'. let i : slice_index a v ≤ FAR = pc.top in let j : slice_index b v ≤ FAR = qc.top in omega arith)
    (cases_lt (slice_index b v) FAR))
    (cases_lt (slice_index a v) FAR))

-- where a row of distances has a walk to a link's beginning, it has one to its end, and no longer a way
pub row-near : (g : Graph) (x : List Bool) (u : ℕ) (cells : List ℕ) → IsGraph g → IsRow g x u cells → (l : ℕ) → l < link_count g → has x l ≡ false → carries g u (tail g l) ≡ true → slice_index cells (tail g l) < FAR → (slice_index cells (head g l) < FAR) × (slice_index cells (head g l) ≤ slice_index cells (tail g l) + metric g l)
row-near g x u cells graph row l within outside carry near =
    let k : IsLink g (link_at g l) = graph.each l within in
    let d : IsDistance g x u (tail g l) (slice_index cells (tail g l)) = (row.each (tail g l) k.0).near near in
    let w = IsWalk-reach g x u d.reached.0 l within outside carry d.reached.1 in
    let near' : slice_index cells (head g l) < FAR = ⊎_elim (λ n. n) (λ far. absurd ((row.each (head g l) k.1).far far w.0 w.1)) (cases_lt (slice_index cells (head g l)) FAR) in
    let le : slice_index cells (head g l) ≤ cost g w.0 = ((row.each (head g l) k.1).near near').least w.0 w.1 in
    (near', omega (arith, w.2, d.reached.2))

pub row-stable : (g : Graph) (x : List Bool) (u : ℕ) (cells : List ℕ) → IsGraph g → IsRow g x u cells → IsStable g x u cells
row-stable g x u cells graph row l within outside carry =
    let k : IsLink g (link_at g l) = graph.each l within in
    ⊎_elim
    (λ near. (row-near g x u cells graph row l within outside carry near).1)
    (λ far. let t : slice_index cells (head g l) ≤ FAR = (row.each (head g l) k.1).top in omega arith)
    (cases_lt (slice_index cells (tail g l)) FAR)

-- the link is on no shortest way from the row's node
abbrev pub IsIdleLink : Graph → List ℕ → ℕ → Type 0
IsIdleLink g cells l = (FAR ≤ slice_index cells (tail g l)) ⊎ ((slice_index cells (head g l) < FAR) × (slice_index cells (head g l) < slice_index cells (tail g l) + metric g l))

-- each link outside x has its like outside y in h, or is idle
abbrev pub Keeps : Graph → List Bool → Graph → List Bool → List ℕ → Type 0
Keeps g x h y cells = (l : ℕ) → l < link_count g → has x l ≡ false → ((k : ℕ) × (k < link_count h) × (has y k ≡ false) × (link_at h k ≡ link_at g l)) ⊎ IsIdleLink g cells l

-- link for link alike
abbrev pub AreLike : Graph → Graph → List ℕ → List ℕ → Type 0
AreLike g h [] [] = Unit {0}
AreLike g h [] (k ∷ q) = ⊥
AreLike g h (l ∷ p) [] = ⊥
AreLike g h (l ∷ p) (k ∷ q) = (link_at h k ≡ link_at g l) × AreLike g h p q

-- the same nodes are overloaded
abbrev pub AgreeOnLoad : Graph → Graph → Type 0
AgreeOnLoad g h = (v : ℕ) → v < node_count g → is_overloaded g v ≡ is_overloaded h v

pub agree-sym : (g h : Graph) → node_count h ≡ node_count g → AgreeOnLoad g h → AgreeOnLoad h g
agree-sym g h nodes agree v within = sym (agree v (omega arith))

pub carries-agree : (g h : Graph) → AgreeOnLoad g h → (u w : ℕ) → w < node_count g → carries g u w ≡ carries h u w
carries-agree g h agree u w within = ap (λ b. cond (w == u) true (not b)) (agree w within)

like-passes : (g h : Graph) → AgreeOnLoad g h → (w : ℕ) → w < node_count g → (p q : List ℕ) → AreLike g h p q → Passes g w p → Passes h w q
like-passes g h agree w within [] [] like a = tt
like-passes g h agree w within [] (k ∷ q) like a = absurd like
like-passes g h agree w within (l ∷ p) [] like a = absurd like
like-passes g h agree w within (l ∷ p) (k ∷ q) like a = sym (agree w within) ∙ a

pub like-begins : (g h : Graph) → AgreeOnLoad g h → (s w : ℕ) → w < node_count g → (p q : List ℕ) → AreLike g h p q → Begins g s w p → Begins h s w q
like-begins g h agree s w within [] [] like a = tt
like-begins g h agree s w within [] (k ∷ q) like a = absurd like
like-begins g h agree s w within (l ∷ p) [] like a = absurd like
like-begins g h agree s w within (l ∷ p) (k ∷ q) like a = sym (carries-agree g h agree s w within) ∙ a

-- a way at the row's distances has its like in h
pub way-kept : (g : Graph) (x : List Bool) (h : Graph) (y : List Bool) (u : ℕ) (cells : List ℕ) → IsGraph g → IsRow g x u cells → Keeps g x h y cells → AgreeOnLoad g h → (w : ℕ) (p : List ℕ) (v : ℕ) → IsWalk g x w p v → Begins g u w p → slice_index cells w < FAR → slice_index cells w + cost g p ≡ slice_index cells v → (q : List ℕ) × IsWalk h y w q v × (cost h q ≡ cost g p) × AreLike g h p q
way-kept g x h y u cells graph row keeps agree w [] v a b near sum = ([], a, refl, tt)
way-kept g x h y u cells graph row keeps agree w (l ∷ p) v a b near sum =
    let same : slice_index cells (tail g l) ≡ slice_index cells w = ap (λ k. slice_index cells k) a.2 in
    let ends : IsLink g (link_at g l) = graph.each l a.0 in
    let inside : head g l < node_count g = ends.1 in
    let on : Begins g u (head g l) p = begins-passes g u (head g l) p a.4 in
    let step : (slice_index cells (head g l) < FAR) × (slice_index cells (head g l) ≤ slice_index cells (tail g l) + metric g l) = row-near g x u cells graph row l a.0 a.1 (rw a.2 b) (omega arith) in
    let rest : slice_index cells v ≤ slice_index cells (head g l) + cost g p = stable-cost g x u cells (row-stable g x u cells graph row) (head g l) p v a.3 on in
    let tight : slice_index cells (head g l) ≡ slice_index cells w + metric g l = omega arith in
    let r = way-kept g x h y u cells graph row keeps agree (head g l) p v a.3 on step.0 (omega arith) in
    ⊎_elim
    (λ kept.
    let to : head h kept.0 ≡ head g l = ap (λ k. k.to.0) kept.3 in
    let from : tail h kept.0 ≡ tail g l = ap (λ k. k.from.0) kept.3 in
    let m : metric h kept.0 ≡ metric g l = ap (λ k. k.metric) kept.3 in
    (kept.0 ∷ r.0, (kept.1, kept.2, from ∙ a.2, rw to r.1, rw to (like-passes g h agree (head g l) inside p r.0 r.3 a.4)), omega (arith, r.2), (kept.3, r.3)))
    (λ idle. absurd (⊎_elim (λ far. omega (arith, far)) (λ more. omega (arith, more.1)) idle))
    (keeps l a.0 a.1)

-- so the row is that of the new graph too
pub row-stays : (g : Graph) (x : List Bool) (h : Graph) (y : List Bool) (u : ℕ) (cells : List ℕ) → IsGraph g → node_count h ≡ node_count g → u < node_count g → IsRow g x u cells → Keeps g x h y cells → Keeps h y g x cells → AgreeOnLoad g h → IsRow h y u cells
row-stays g x h y u cells graph nodes within row keeps back agree =
    let own : slice_index cells u ≡ 0 =
    ⊎_elim
    (λ near. distance-unique g x u u _ 0 ((row.each u within).near near) (distance-self g x u))
    (λ far. absurd ((row.each u within).far far [] refl))
    (cases_lt (slice_index cells u) FAR) in
    let top_all : (v : ℕ) → slice_index cells v ≤ FAR = λ v. ⊎_elim (λ lt. (row.each v lt).top) (λ ge. rw (get_or_past cells v 0 (omega (arith, row.long))) (omega arith)) (cases_lt v (node_count g)) in
    let stable : IsStable h y u cells = λ k inside outside carry. ⊎_elim
    (λ kept.
    subst (λ j. carries h u j.from.0 ≡ true → slice_index cells j.to.0 ≤ slice_index cells j.from.0 + j.metric) kept.3
    (λ c. row-stable g x u cells graph row kept.0 kept.1 kept.2 (carries-agree g h agree u (tail g kept.0) ((graph.each kept.0 kept.1).0) ∙ c)) carry)
    (λ idle. ⊎_elim
    (λ far. let t : slice_index cells (head h k) ≤ FAR = top_all (head h k) in omega (arith, far))
    (λ more. omega (arith, more.1))
    idle)
    (back k inside outside) in
    let nearer : (k : ℕ) → k < link_count h → has y k ≡ false → carries h u (tail h k) ≡ true → slice_index cells (tail h k) < FAR → slice_index cells (head h k) < FAR = λ k inside outside carry near. ⊎_elim
    (λ kept. subst (λ j. carries h u j.from.0 ≡ true → slice_index cells j.from.0 < FAR → slice_index cells j.to.0 < FAR) kept.3
    (λ c n. (row-near g x u cells graph row kept.0 kept.1 kept.2 (carries-agree g h agree u (tail g kept.0) ((graph.each kept.0 kept.1).0) ∙ c) n).0) carry near)
    (λ idle. ⊎_elim (λ far. absurd (omega (arith, far))) (λ more. more.0) idle)
    (back k inside outside) in
    record {
      long = row.long ∙ sym nodes;
      each = λ v inside.
          let inside' : v < node_count g = omega (arith, nodes) in
          let c : IsCell g x u v (slice_index cells v) = row.each v inside' in
          record {
            top = c.top;
            near = λ near.
                let d : IsDistance g x u v (slice_index cells v) = c.near near in
                let r = way-kept g x h y u cells graph row keeps agree u d.reached.0 v d.reached.1 (begins-self g u d.reached.0) (omega arith) (omega (arith, d.reached.2)) in
                record {
                  reached = (r.0, r.1, r.2 ∙ d.reached.2);
                  least = λ p a. let le : slice_index cells v ≤ slice_index cells u + cost h p = stable-cost h y u cells stable u p v a (begins-self h u p) in omega arith;
                };
            far = λ far p a. let near : slice_index cells v < FAR = stable-near h y u cells FAR nearer u p v a (begins-self h u p) (omega arith) in omega arith;
          };
    }
