-- What the failure of a link leaves: each walk without the link's pair goes around its end, or reaches it by another link.
use Rattle.std.proofs.Common.{◌≡◌, ◌≢◌, ℕ, ◌+◌, ◌*◌, ◌<◌, ◌≤◌, ◌⊎◌, ⊎_elim, inl, inr, Bool, true, false, List, [], ◌∷◌, ◌++◌, length, refl, arith, ap, sym, ◌∙◌, subst}
use Rattle.std.specs.Prelude.{Contains, slice_index}
use Rattle.std.proofs.lemmas.Bool.{cases_eq, cases_lt, cases_Bool, true≢false}
use Rattle.std.proofs.lemmas.List.{get_or_default}
use Rattle.sr_model.specs.declared.link.TheConstants.{FAR}
use Rattle.sr_model.specs.Graph.{Graph, IsGraph, IsLink, carries, has, head, link_at, link_count, metric, node_count, tail, IsNamed}
use Rattle.sr_model.specs.Walk.{IsCell, IsDistance, IsNextHop, IsRow, IsShortest, IsWalk, Passes, cost}
use Rattle.sr_model.specs.declared.case.Case.{Case}
use Rattle.sr_model.specs.declared.case.Kind.{Kind}
use Rattle.sr_model.specs.declared.case.Kind.TheVariants.{Link as LinkKind}
use Rattle.sr_model.specs.declared.link.NodeNo.{NodeNo}
use Rattle.sr_model.specs.Key.{IsSamePair}
use Rattle.sr_model.specs.Case.{FailsWith, IsCase, IsFailedSet, Touches, end_of, key_at, source_of}
use Rattle.sr_spf.specs.Begun.{IsLeastWay}
use Rattle.sr_walks.proofs.Walks.{Begins, IsWalk-any, IsWalk-append, IsWalk-reach, begins-passes, begins-self, cost-append, passes-carries}
use Rattle.sr_walks.proofs.Distances.{cell-distance, distance-from_shortest, distance-self, distance-unique, shortest-cut, sum-from_IsNextHop, walk-out}
use Rattle.sr_walks.proofs.Distinct.{distance-small}
use Rattle.sr_walks.proofs.Rows.{row-near}
use Rattle.sr_laws.proofs.Waypoints.{IsWalk-avoiding}
use Rattle.sr_post.proofs.DangerLemmas.{first-hop}
use Rattle.sr_post.specs.Kept.{IsKept, LeadsTo, LieAt}
use Rattle.sr_laws.proofs.Failures.{touches-pair}
use Rattle.sr_laws.proofs.Keys.{pair-sym}
use Rattle.sr_post.proofs.SourceLemmas.{kept-at_source, lie-at-source, no-node_fails}
use Rattle.sr_spf.specs.Nodes.{listed_at}
use Rattle.sr_post.specs.Sets.{AreKeptCells, HaveKeptCells}
use Rattle.sr_post.specs.Bypass.{AreLostFilled, IsDistancePast, node_case}

-- a walk that reaches f by link k outside x, from a node that is reached without y, and goes on from there to v
pub record ComesBy (g : Graph) (x : List Bool) (s f : ℕ) (around : List ℕ) (v total : ℕ) : Type 0 where
  pub link : ℕ
  pub within : link < link_count g
  pub outside : has x link ≡ false
  pub carry : carries g s (tail g link) ≡ true
  pub ends : head g link ≡ f
  pub near : slice_index around (tail g link) < FAR
  pub rest : List ℕ
  pub from : IsWalk g x f rest v
  pub pass : Passes g f rest
  pub sum : slice_index around (tail g link) + metric g link + cost g rest ≤ total

module _ (g : Graph) (x y : List Bool) (s f : ℕ) (around : List ℕ) (graph : IsGraph g) (row : IsRow g y s around) (at_end : (l : ℕ) → l < link_count g → has y l ≡ true → Touches g l f) where
  -- a walk without x is no shorter than one around f, or it reaches f
  pub around-or_by : (u : ℕ) (p : List ℕ) (v : ℕ) → IsWalk g x u p v → Begins g s u p → u ≢ f → slice_index around u < FAR → ((slice_index around v < FAR) × (slice_index around v ≤ slice_index around u + cost g p)) ⊎ ComesBy g x s f around v (slice_index around u + cost g p)
  around-or_by u [] v a b apart near = inl (subst (λ k. slice_index around k < FAR) a near, subst (λ k. slice_index around k ≤ slice_index around u + 0) a (omega arith))
  around-or_by u (l ∷ p) v a b apart near =
      let carry : carries g s (tail g l) ≡ true = rw a.2 b in
      let same : slice_index around (tail g l) ≡ slice_index around u = ap (λ k. slice_index around k) a.2 in
      ⊎_elim
      (λ (here : head g l ≡ f).
      let by : ComesBy g x s f around v (slice_index around u + (metric g l + cost g p)) = record {
        link = l;
        within = a.0;
        outside = a.1;
        carry = carry;
        ends = here;
        near = omega (arith, same);
        rest = p;
        from = subst (λ k. IsWalk g x k p v) here a.3;
        pass = subst (λ k. Passes g k p) here a.4;
        sum = omega (arith, same);
      } in
      inr by)
      (λ (on : head g l ≢ f).
      let outside : has y l ≡ false = ⊎_elim
      (λ (failed : has y l ≡ true). absurd (⊎_elim (λ (begins : tail g l ≡ f). apart (sym a.2 ∙ begins)) (λ (ends : head g l ≡ f). on ends) (at_end l a.0 failed)))
      (λ out. out)
      (cases_Bool (has y l)) in
      let next = row-near g y s around graph row l a.0 outside carry (omega (arith, same)) in
      ⊎_elim
      (λ r. inl (r.0, omega (arith, same, next.1, r.1)))
      (λ (by : ComesBy g x s f around v (slice_index around (head g l) + cost g p)). inr (record {
        link = by.link;
        within = by.within;
        outside = by.outside;
        carry = by.carry;
        ends = by.ends;
        near = by.near;
        rest = by.rest;
        from = by.from;
        pass = by.pass;
        sum = omega (arith, same, next.1, by.sum);
      }))
      (around-or_by (head g l) p v a.3 (begins-passes g s (head g l) p a.4) on next.0))
      (cases_eq (head g l) f)

-- a walk without the links of y is one without those of x, of which there are fewer
fewer-walk : (g : Graph) (x y : List Bool) → ((l : ℕ) → l < link_count g → has x l ≡ true → has y l ≡ true) → (u : ℕ) (p : List ℕ) (v : ℕ) → IsWalk g y u p v → IsWalk g x u p v
fewer-walk g x y fewer u [] v a = a
fewer-walk g x y fewer u (l ∷ p) v a =
    let outside : has x l ≡ false = ⊎_elim
    (λ (yes : has x l ≡ true). absurd (true≢false (sym (fewer l a.0 yes) ∙ a.1)))
    (λ no. no)
    (cases_Bool (has x l)) in
    (a.0, outside, a.2, fewer-walk g x y fewer (head g l) p v a.3, a.4)

-- where the links of x lie at s, a walk is without them, or goes on from s
without-or_from : (g : Graph) (x : List Bool) (s : ℕ) → LieAt g x s → (u : ℕ) (p : List ℕ) (v : ℕ) → IsWalk g [] u p v → IsWalk g x u p v ⊎ ((q : List ℕ) × IsWalk g [] s q v × (cost g q ≤ cost g p))
without-or_from g x s lie u [] v a = inl a
without-or_from g x s lie u (l ∷ p) v a =
    ⊎_elim
    (λ (yes : has x l ≡ true). ⊎_elim
    (λ (begins : tail g l ≡ s). inr (l ∷ p, (a.0, a.1, begins, a.3, a.4), omega arith))
    (λ (ends : head g l ≡ s). inr (p, subst (λ k. IsWalk g [] k p v) ends a.3, omega arith))
    (lie l a.0 yes))
    (λ (no : has x l ≡ false). ⊎_elim
    (λ (rest : IsWalk g x (head g l) p v). inl (a.0, no, a.2, rest, a.4))
    (λ (on : (q : List ℕ) × IsWalk g [] s q v × (cost g q ≤ cost g p)). inr (on.0, on.1, omega (arith, on.2)))
    (without-or_from g x s lie (head g l) p v a.3))
    (cases_Bool (has x l))

-- the cell of a node that is kept is the distance without x
module _ (g : Graph) (x : List Bool) (s : ℕ) (whole : List ℕ) (s_in : s < node_count g) (is : IsRow g [] s whole) where
  own-cell : IsCell g x s s (slice_index whole s)
  own-cell =
      let zero : slice_index whole s ≡ 0 = cell-distance g [] s s (slice_index whole s) 0 (is.each s s_in) (distance-self g [] s) (omega arith) in
      rw zero (record { top = omega arith; near = λ _. distance-self g x s; far = λ above. absurd (omega (arith, above)) })

  led-cell : (v l : ℕ) → v < node_count g → LeadsTo g x s v l → IsCell g x s v (slice_index whole v)
  led-cell v l v_in leads =
      let p : List ℕ = l ∷ leads.hop.more in
      let d : IsDistance g [] s v (cost g p) = distance-from_shortest g [] s v p leads.hop.shortest in
      let cell : IsCell g [] s v (slice_index whole v) = is.each v v_in in
      let near : slice_index whole v < FAR = ⊎_elim (λ n. n) (λ far. absurd (cell.far far p leads.hop.shortest.0)) (cases_lt (slice_index whole v) FAR) in
      let same : slice_index whole v ≡ cost g p = distance-unique g [] s v _ _ (cell.near near) d in
      let begin = shortest-cut g [] s (l ∷ []) leads.hop.more v leads.hop.shortest in
      let rest : IsShortest g [] (head g l) leads.hop.more v = subst (λ u. IsShortest g [] u leads.hop.more v) (sym begin.1.0.3) begin.2 in
      let on : IsWalk g x (head g l) leads.hop.more v = IsWalk-avoiding g x (head g l) leads.hop.more v rest.0 (leads.space.avoids leads.hop.more rest) in
      let walk : IsWalk g x s p v = (leads.hop.shortest.0.0, leads.outside, leads.hop.shortest.0.2, on, leads.hop.shortest.0.4) in
      record {
        top = omega (arith, near);
        near = λ _. record { reached = (p, walk, sym same); least = λ q b. (cell.near near).least q (IsWalk-any g x s q v b) };
        far = λ far. absurd (omega (arith, near, far));
      }

  pub kept-cell : (v : ℕ) → v < node_count g → IsKept g x s v → IsCell g x s v (slice_index whole v)
  kept-cell v v_in kept =
      ⊎_elim
      (λ (e : v ≡ s). rw e own-cell)
      (λ (c : (l : ℕ) × LeadsTo g x s v l). led-cell v c.0 v_in c.1)
      kept

-- a node v towards which each next hop of s ends at f
module _ (g : Graph) (s f v : ℕ) (whole : List ℕ) (graph : IsGraph g) (is : IsRow g [] s whole) (v_in : v < node_count g) (other : v ≢ s) (hops : (h : ℕ) → IsNextHop g [] s v h → head g h ≡ f) where
  -- it is farther from s than from f
  farther : (q : List ℕ) → IsWalk g [] s q v → (d : ℕ) × IsDistance g [] f v d × (d < cost g q)
  farther q a =
      let cell : IsCell g [] s v (slice_index whole v) = is.each v v_in in
      let near : slice_index whole v < FAR = ⊎_elim (λ n. n) (λ far. absurd (cell.far far q a)) (cases_lt (slice_index whole v) FAR) in
      let e : IsDistance g [] s v (slice_index whole v) = cell.near near in
      let first = first-hop g s v (slice_index whole v) other e in
      let parts = sum-from_IsNextHop g [] s v first.0 (slice_index whole v) e first.1 in
      let link : IsLink g (link_at g first.0) = graph.each first.0 parts.0 in
      let least : slice_index whole v ≤ cost g q = e.least q a in
      (parts.2.0, subst (λ k. IsDistance g [] k v parts.2.0) (hops first.0 first.1) parts.2.1, omega (arith, parts.2.2, link.2, least))

  -- so no walk leads there where f is s
  own_end : s ≡ f → (q : List ℕ) → IsWalk g [] s q v → ⊥
  own_end same q a =
      let one = farther q a in
      let d : IsDistance g [] s v one.0 = subst (λ k. IsDistance g [] k v one.0) (sym same) one.1 in
      let two = farther d.reached.0 d.reached.1 in
      let equal : one.0 ≡ two.0 = distance-unique g [] f v _ _ one.1 two.1 in
      omega (arith, equal, two.2, d.reached.2)

  -- and a shortest walk from f doesn't reach s, so it is without the links that lie there
  onward-without : (x : List Bool) → LieAt g x s → (d : ℕ) → IsDistance g [] f v d → (q : List ℕ) → IsWalk g [] f q v → cost g q ≡ d → IsWalk g x f q v
  onward-without x lie d far q a sum =
      ⊎_elim
      (λ w. w)
      (λ (on : (p : List ℕ) × IsWalk g [] s p v × (cost g p ≤ cost g q)).
      let more = farther on.0 on.1 in
      let equal : d ≡ more.0 = distance-unique g [] f v _ _ far more.1 in
      absurd (omega (arith, equal, more.2, on.2, sum)))
      (without-or_from g x s lie f q v a)

-- the failed links x of the link from s to f, and the links y that touch f; the distances from s without y, those from s
-- and from f in the whole graph, and the distance from s to f without x
pub record IsLinkFailure (g : Graph) (x y : List Bool) (s f into : ℕ) (around whole onward : List ℕ) : Type 0 where
  pub graph : IsGraph g
  pub s_in : s < node_count g
  pub f_in : f < node_count g
  pub lie : LieAt g x s
  pub fewer : (l : ℕ) → l < link_count g → has x l ≡ true → has y l ≡ true
  pub at_end : (l : ℕ) → l < link_count g → has y l ≡ true → Touches g l f
  pub begins : (l : ℕ) → l < link_count g → has x l ≡ true → tail g l ≡ s → head g l ≡ f
  pub row : IsRow g y s around
  pub is : IsRow g [] s whole
  pub on : IsRow g [] f onward
  pub least : IsLeastWay g x s around f into

module _ (g : Graph) (x y : List Bool) (s f into : ℕ) (around whole onward : List ℕ) (t : IsLinkFailure g x y s f into around whole onward) where
  start : slice_index around s ≡ 0
  start = cell-distance g y s s (slice_index around s) 0 (t.row.each s t.s_in) (distance-self g y s) (omega arith)

  -- a walk around f is one without x
  around-walk : (v : ℕ) → v < node_count g → slice_index around v < FAR → (p : List ℕ) × IsWalk g x s p v × (cost g p ≡ slice_index around v)
  around-walk v v_in near =
      let d : IsDistance g y s v (slice_index around v) = (t.row.each v v_in).near near in
      (d.reached.0, fewer-walk g x y t.fewer s d.reached.0 v d.reached.1, d.reached.2)

  -- and there is a walk to f
  into-walk : into < FAR → (p : List ℕ) × IsWalk g x s p f × (cost g p ≤ into)
  into-walk near =
      ⊎_elim
      (λ (lower : into < slice_index around f).
      let (k, within, outside, carry, ends, sum) = t.least.way lower in
      let link : IsLink g (link_at g k) = t.graph.each k within in
      let first = around-walk (tail g k) link.0 (omega (arith, sum, near)) in
      let r = IsWalk-reach g x s first.0 k within outside carry first.1 in
      (r.0, subst (λ u. IsWalk g x s r.0 u) ends r.1, omega (arith, r.2, first.2, sum)))
      (λ (same : slice_index around f ≤ into).
      let first = around-walk f t.f_in (omega (arith, same, near)) in
      (first.0, first.1, omega (arith, first.2, same)))
      (cases_lt into (slice_index around f))

  -- a node v that is lost, and what is told of it
  module _ (v c : ℕ) (v_in : v < node_count g) (other : v ≢ s) (hops : (h : ℕ) → IsNextHop g [] s v h → head g h ≡ f) (at : IsDistancePast g (record { end = f; into = into; around = around; onward = onward }) v c) where
    -- no walk is shorter
    no_shorter : (p : List ℕ) → IsWalk g x s p v → (c ≤ cost g p) × (c < FAR)
    no_shorter p a =
        ⊎_elim
        (λ (same : s ≡ f). absurd (own_end g s f v whole t.graph t.is v_in other hops same p (IsWalk-any g x s p v a)))
        (λ (apart : s ≢ f). ⊎_elim
        (λ (past : (slice_index around v < FAR) × (slice_index around v ≤ slice_index around s + cost g p)).
        (omega (arith, start, past.1, at.around_it), omega (arith, past.0, at.around_it)))
        (λ (by : ComesBy g x s f around v (slice_index around s + cost g p)).
        let over : c ≤ into + slice_index onward v = at.over_it (passes-carries g x f by.rest v by.from by.pass) in
        let way : into ≤ slice_index around (tail g by.link) + metric g by.link = t.least.least by.link by.within by.outside by.carry by.ends in
        let link : IsLink g (link_at g by.link) = t.graph.each by.link by.within in
        let rest : IsWalk g [] f by.rest v = IsWalk-any g x f by.rest v by.from in
        let reached : slice_index onward v < FAR = ⊎_elim (λ n. n) (λ far. absurd ((t.on.each v v_in).far far by.rest rest)) (cases_lt (slice_index onward v) FAR) in
        let d : IsDistance g [] f v (slice_index onward v) = (t.on.each v v_in).near reached in
        let le : slice_index onward v ≤ cost g by.rest = d.least by.rest rest in
        let small : slice_index onward v ≤ 255 * 16777214 = distance-small g t.graph [] f v _ t.f_in d in
        let e : IsDistance g y s (tail g by.link) (slice_index around (tail g by.link)) = (t.row.each (tail g by.link) link.0).near by.near in
        let short : slice_index around (tail g by.link) ≤ 255 * 16777214 = distance-small g t.graph y s (tail g by.link) _ t.s_in e in
        (omega (arith, start, over, way, le, by.sum), omega (arith, over, way, small, short, link.3)))
        (around-or_by g x y s f around t.graph t.row t.at_end s p v a (begins-self g s p) apart (omega (arith, start))))
        (cases_eq s f)

    -- and there is one
    some_walk : c < FAR → (p : List ℕ) × IsWalk g x s p v × (cost g p ≤ c)
    some_walk near =
        ⊎_elim
        (λ (past : c ≡ slice_index around v). let w = around-walk v v_in (omega (arith, past, near)) in (w.0, w.1, omega (arith, w.2, past)))
        (λ (over : (carries g v f ≡ true) × (c ≡ into + slice_index onward v)).
        let first = into-walk (omega (arith, over.1, near)) in
        let d : IsDistance g [] f v (slice_index onward v) = (t.on.each v v_in).near (omega (arith, over.1, near)) in
        let out = walk-out g [] f v (slice_index onward v) over.0 d in
        let on : IsWalk g x f out.0 v = onward-without g s f v whole t.graph t.is v_in other hops x t.lie (slice_index onward v) d out.0 out.1 out.2 in
        (first.0 ++ out.0, IsWalk-append g x s first.0 f out.0 v first.1 on out.3, omega (arith, cost-append g first.0 out.0, first.2, out.2, over.1)))
        at.one

    pub lost-cell : IsCell g x s v c
    lost-cell = record {
      top = let most : slice_index around v ≤ FAR = (t.row.each v v_in).top in omega (arith, at.around_it, most);
      near = λ near.
          let w = some_walk near in
          let least = no_shorter w.0 w.1 in
          record { reached = (w.0, w.1, omega (arith, least.0, w.2)); least = λ q b. (no_shorter q b).0 };
      far = λ far p a. let less = (no_shorter p a).1 in omega (arith, far, less);
    }

  -- the cells that are kept and those that are filled are the row
  pub filled-row : (cells after : List ℕ) (lost : List NodeNo) → AreKeptCells g x s whole cells lost → AreLostFilled g (record { end = f; into = into; around = around; onward = onward }) lost (length lost) cells after → IsRow g x s after
  filled-row cells after lost kept filled = record {
    long = omega (arith, kept.long, filled.long);
    each = λ v v_in. ⊎_elim
        (λ (stays : IsKept g x s v × (slice_index cells v ≡ slice_index whole v)).
        let same : slice_index after v ≡ slice_index cells v = filled.others v (λ j lt e. kept.gone j lt (subst (IsKept g x s) (sym e) stays.0)) in
        rw (same ∙ stays.1) (kept-cell g x s whole t.s_in t.is v v_in stays.0))
        (λ (goes : (IsKept g x s v → ⊥) × (slice_index cells v ≡ FAR) × Contains lost (record { 0 = v })).
        let j : ℕ = goes.2.0 in
        let place : listed_at lost j ≡ v = ap (λ (n : NodeNo). n.0) (sym (get_or_default lost j (record { 0 = v }) (record { 0 = 0 }) goes.2.1) ∙ goes.2.2) in
        let at : IsDistancePast g (record { end = f; into = into; around = around; onward = onward }) v (slice_index after v) = subst (λ k. IsDistancePast g (record { end = f; into = into; around = around; onward = onward }) k (slice_index after k)) place (filled.filled j goes.2.1) in
        let hops : (h : ℕ) → IsNextHop g [] s v h → head g h ≡ f = λ h hop. ⊎_elim
        (λ (yes : has x h ≡ true). t.begins h hop.shortest.0.0 yes hop.shortest.0.2)
        (λ (no : has x h ≡ false). absurd (goes.0 (inr (h, kept-at_source g x s v h t.graph t.lie no hop))))
        (cases_Bool (has x h)) in
        lost-cell v (slice_index after v) v_in (λ e. goes.0 (inl e)) hops at)
        (kept.each v v_in);
  }

-- the failed links of a link case, and of the node case of the same link
module _ (g : Graph) (case : Case) (x y : List Bool) (graph : IsGraph g) (named : IsNamed g) (is : IsCase g case) (kind : case.kind ≡ LinkKind) (set : IsFailedSet g case x) (set' : IsFailedSet g (node_case case) y) where
  -- a link that fails has the pair of the protected link
  fails_pair : (l : ℕ) → l < link_count g → has x l ≡ true → IsSamePair (key_at g l) (key_at g case.link.0)
  fails_pair l within failed = subst (λ (k : Kind). FailsWith g k case.link.0 l) kind ((set.each l within).0 failed)

  -- and so touches its end
  fails_there : (l : ℕ) → l < link_count g → has x l ≡ true → Touches g l (end_of g case)
  fails_there l within failed = touches-pair g graph named case.link.0 l (end_of g case) is within (pair-sym (key_at g l) (key_at g case.link.0) (fails_pair l within failed)) (inr refl)

  -- where it begins at the source it ends there
  fails_to : (l : ℕ) → l < link_count g → has x l ≡ true → tail g l ≡ source_of g case → head g l ≡ end_of g case
  fails_to l within failed begins =
      ⊎_elim
      (λ (from : tail g l ≡ end_of g case). ⊎_elim
      (λ (back : source_of g case ≡ head g l). sym back ∙ sym begins ∙ from)
      (λ (to : end_of g case ≡ head g l). sym to)
      (touches-pair g graph named l case.link.0 (head g l) within is (fails_pair l within failed) (inr refl)))
      (λ ends. ends)
      (fails_there l within failed)

  -- so the row is told
  pub told-row : (into : ℕ) (around onward cells after : List ℕ) (lost : List NodeNo) → IsRow g y (source_of g case) around → IsRow g [] (end_of g case) onward → IsLeastWay g x (source_of g case) around (end_of g case) into → HaveKeptCells g x (source_of g case) cells lost → AreLostFilled g (record { end = end_of g case; into = into; around = around; onward = onward }) lost (length lost) cells after → IsRow g x (source_of g case) after
  told-row into around onward cells after lost row on least kept filled =
      let link : IsLink g (link_at g case.link.0) = graph.each case.link.0 is in
      let given : IsLinkFailure g x y (source_of g case) (end_of g case) into around kept.0 onward = record {
        graph = graph;
        s_in = link.0;
        f_in = link.1;
        lie = lie-at-source g graph named case is x set (no-node_fails case.kind (inl kind));
        fewer = λ l within failed. (set'.each l within).1 (fails_there l within failed);
        at_end = λ l within failed. (set'.each l within).0 failed;
        begins = fails_to;
        row = row;
        is = kept.1;
        on = on;
        least = least;
      } in
      filled-row g x y (source_of g case) (end_of g case) into around kept.0 onward given cells after lost kept.2 filled
