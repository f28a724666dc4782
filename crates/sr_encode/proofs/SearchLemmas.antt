-- What a look at one segment keeps.
use Rattle.std.proofs.Common.{◌≡◌, ◌≢◌, ℕ, ◌+◌, ◌-◌, ◌<◌, ◌≤◌, ◌⊎◌, ⊎_elim, inl, inr, Bool, true, false, List, [], ◌∷◌, ◌++◌, length, get_or, set, refl, arith, ap, sym, ◌∙◌, subst, Option, Some, None}
use Rattle.std.proofs.Common.{cond, replicate}
use Rattle.std.specs.Prelude.{count_by, is_some, slice_index, slice_index_or, nat_lt}
use Rattle.std.proofs.lemmas.Bool.{cond_both, ltb-true, ltb-false, cases_eq, cases_lt}
use Rattle.std.proofs.lemmas.List.Sums.{sum_by-set, count_by-le-length}
use Rattle.std.proofs.lemmas.List.Folds.{sum_by-replicate}
use Rattle.std.proofs.lemmas.List.{length-append, length-set, get_or-set_same, get_or-set_other, get_or_push, get_or_append_left, get_or_past, length-replicate, get_or-replicate}
use Rattle.sr_model.specs.declared.link.TheConstants.{FAR}
use Rattle.sr_model.specs.declared.repair.Segment.{Segment}
use Rattle.sr_model.specs.declared.repair.Segment.TheVariants.{Node, Adj}
use Rattle.sr_model.specs.Graph.{Graph, IsGraph, node_count, link_count, tail, head, metric, has, is_overloaded}
use Rattle.sr_model.specs.Walk.{IsWalk, IsDistance, IsRow}
use Rattle.sr_model.specs.Label.{Net}
use Rattle.sr_model.specs.Repair.{Path, SegmentLt, PathLt, PathLe}
use Rattle.sr_walks.proofs.Walks.{IsWalk-append}
use Rattle.sr_walks.proofs.Distances.{distance-unique}
use Rattle.sr_laws.proofs.Waypoints.{Routes}
use Rattle.sr_laws.proofs.Order.{push, PathLt-push, PathLt-last, PathLt-trans}
use Rattle.sr_laws.proofs.Exact.{IsExact, Knows, routes-walk, exact-push}
use Rattle.sr_encode.specs.Aftermath.{Aftermath}
use Rattle.sr_encode.specs.Search.{segment_numbered, key_count, StepsTo, WasLookedAt, IsSearch, IsStart}

-- segments by number are in order
pub segment_numbered-lt : (g : Graph) (j k : ℕ) → j < k → SegmentLt (segment_numbered g j) (segment_numbered g k)
segment_numbered-lt g j k lt =
    cond_both (nat_lt j (node_count g)) (Node (record { 0 = j })) (Adj (record { 0 = j - node_count g })) (λ r. SegmentLt r (segment_numbered g k))
    (λ low. cond_both (nat_lt k (node_count g)) (Node (record { 0 = k })) (Adj (record { 0 = k - node_count g })) (λ r. SegmentLt (Node (record { 0 = j })) r) (λ _. lt) (λ _. tt))
    (λ high. let h : node_count g ≤ j = ltb-false j (node_count g) high in
    cond_both (nat_lt k (node_count g)) (Node (record { 0 = k })) (Adj (record { 0 = k - node_count g })) (λ r. SegmentLt (Adj (record { 0 = j - node_count g })) r)
    (λ low. let l : k < node_count g = ltb-true k (node_count g) low in absurd (omega arith)) (λ _. omega arith))

-- each segment that leads somewhere has a number
pub segment_key : (n : Net) (x : List Bool) (w : ℕ) (t : Segment) (v e : ℕ) → Routes n x w (t ∷ []) v e
    → (key : ℕ) × (key < key_count n.graph) × (segment_numbered n.graph key ≡ t)
segment_key n x w (Node k) v e a =
    (k.0, omega (arith, a.3), cond_both (nat_lt k.0 (node_count n.graph)) (Node (record { 0 = k.0 })) (Adj (record { 0 = k.0 - node_count n.graph })) (λ r. r ≡ Node k) (λ _. refl) (λ high. let h : node_count n.graph ≤ k.0 = ltb-false k.0 (node_count n.graph) high in absurd (omega (arith, a.3))))
segment_key n x w (Adj l) v e a =
    let z : (node_count n.graph + l.0) - node_count n.graph ≡ l.0 = omega arith in (
      node_count n.graph + l.0,
      omega (arith, a.1),
      cond_both (nat_lt (node_count n.graph + l.0) (node_count n.graph)) (Node (record { 0 = node_count n.graph + l.0 })) (Adj (record { 0 = (node_count n.graph + l.0) - node_count n.graph })) (λ r. r ≡ Adj l)
          (λ low. let h : node_count n.graph + l.0 < node_count n.graph = ltb-true _ _ low in absurd (omega arith)) (λ _. ap (λ k. Adj (record { 0 = k })) z),
    )

-- the cell of a node that a walk reaches is its distance
pub row-distance : (g : Graph) (x : List Bool) (s : ℕ) (post : List ℕ) (v : ℕ) (p : List ℕ) → IsRow g x s post
    → v < node_count g → IsWalk g x s p v → IsDistance g x s v (get_or post v 0)
row-distance g x s post v p row within a =
    ⊎_elim (λ near. (row.each v within).near near) (λ far. absurd ((row.each v within).far far p a)) (cases_lt (get_or post v 0) FAR)

pub row-exact : (after : Aftermath) (w : ℕ) (a : Path) → IsRow after.net.graph after.failed after.source after.post
    → w < node_count after.net.graph → (i : IsExact after.net after.failed after.source w a)
    → get_or after.post w 0 ≡ metric after.net.graph a.first + i.middle
row-exact after w a row within i =
    distance-unique after.net.graph after.failed after.source w _ _ (row-distance after.net.graph after.failed after.source after.post w i.fits.reached.0 row within i.fits.reached.1) i.fits

pub exact-step : (after : Aftermath) (w v : ℕ) (a : Path) (t : Segment)
    → IsRow after.net.graph after.failed after.source after.post → w < node_count after.net.graph
    → v < node_count after.net.graph → IsExact after.net after.failed after.source w a → StepsTo after w t v
    → IsExact after.net after.failed after.source v (push a t)
exact-step after w v a t row within inside i step =
    let q = routes-walk after.net after.failed w (t ∷ []) v step.cost step.leads in
    let d : IsDistance after.net.graph after.failed after.source v (get_or after.post v 0) = row-distance after.net.graph after.failed after.source after.post v (i.fits.reached.0 ++ q.0) row inside (IsWalk-append after.net.graph after.failed after.source i.fits.reached.0 w q.0 v i.fits.reached.1 q.1 q.3) in
    exact-push after.net after.failed after.source w v step.cost a t i step.leads
    (subst (λ k. IsDistance after.net.graph after.failed after.source v k) (omega (arith, step.fits, row-exact after w a row within i)) d)

pub step-from_exact : (after : Aftermath) (w v e : ℕ) (a : Path) (t : Segment)
    → IsRow after.net.graph after.failed after.source after.post → w < node_count after.net.graph
    → v < node_count after.net.graph → (i : IsExact after.net after.failed after.source w a)
    → Routes after.net after.failed w (t ∷ []) v e
    → IsDistance after.net.graph after.failed after.source v (metric after.net.graph a.first + i.middle + e)
    → StepsTo after w t v
step-from_exact after w v e a t row within inside i leads d = record {
  cost = e;
  leads = leads;
  fits =
      let same : get_or after.post v 0 ≡ metric after.net.graph a.first + i.middle + e = distance-unique after.net.graph after.failed after.source v _ _ (row-distance after.net.graph after.failed after.source after.post v d.reached.0 row inside d.reached.1) d in
      omega (arith, row-exact after w a row within i);
}

-- one list more in the table of known ones
module _ (known : List (Option Path)) (v : ℕ) (c : Path) (within : v < length known) (fresh : slice_index_or known v None ≡ None) where
  -- what is known of other nodes
  other_than : (w : ℕ) (b : Path) → Knows known w b → w ≢ v
  other_than w b k e = let z : slice_index_or known v None ≡ Some b = subst (λ j. slice_index_or known j None ≡ Some b) e k in let y : None ≡ Some b = sym fresh ∙ z in cc

  knows-kept : (w : ℕ) (b : Path) → Knows known w b → Knows (set known v (Some c)) w b
  knows-kept w b k = get_or-set_other known v w (Some c) None (other_than w b k) ∙ k

  knows-new : Knows (set known v (Some c)) v c
  knows-new = get_or-set_same known v (Some c) None within

  knows-back : (w : ℕ) (b : Path) → Knows (set known v (Some c)) w b → ((w ≡ v) × (b ≡ c)) ⊎ Knows known w b
  knows-back w b k =
      ⊎_elim
      (λ e. let z : Some b ≡ Some c = sym k ∙ subst (λ j. slice_index_or (set known v (Some c)) j None ≡ Some c) (sym e) knows-new in inl (e, (cc)))
      (λ ne. inr (sym (get_or-set_other known v w (Some c) None ne) ∙ k))
      (cases_eq w v)

  count-new : count_by is_some (set known v (Some c)) ≡ count_by is_some known + 1
  count-new =
      let e : count_by is_some (set known v (Some c)) + cond (is_some (slice_index_or known v None)) 1 0 ≡ count_by is_some known + 1 = sum_by-set (λ o. cond (is_some o) 1 0) known v (Some c) None within in
      omega (arith, rw fresh at e)

-- what is known is lower than the list that a segment would make that wasn't looked at
is_lower : (after : Aftermath) (known : List (Option Path)) (order : List ℕ) (i cur key : ℕ)
    → IsSearch after known order i cur → i < length order → cur ≤ key
    → (a : Path) (w : ℕ) (b : Path) → Knows known (slice_index order i) a → Knows known w b
    → PathLt b (push a (segment_numbered after.net.graph key))
is_lower after known order i cur key r inside up a w b ka kb =
    let t : Segment = segment_numbered after.net.graph key in
    ⊎_elim
    (λ all. all t)
    (λ pushed.
    let lt : pushed.0 < cur = pushed.1 in
    let apart : SegmentLt (segment_numbered after.net.graph pushed.0) t = segment_numbered-lt after.net.graph pushed.0 key (omega arith) in
    subst (λ k. PathLt k (push a t)) (sym pushed.2) (PathLt-last a (segment_numbered after.net.graph pushed.0) t apart))
    (r.low a w b inside ka kb)

-- the search goes on past segments that lead nowhere, or to nodes that are known
pub search-over : (after : Aftermath) (known : List (Option Path)) (order : List ℕ) (i cur next : ℕ)
    → IsSearch after known order i cur → i < length order → cur ≤ next
    → ((key v : ℕ) → cur ≤ key → key < next → StepsTo after (slice_index order i) (segment_numbered after.net.graph key) v
    → (b : Path) × Knows known v b)
    → IsSearch after known order i next
search-over after known order i cur next r inside up all = record {
  long = r.long;
  sized = r.sized;
  exact = r.exact;
  starts = r.starts;
  listed = r.listed;
  found = r.found;
  ascending = r.ascending;
  closed = λ k key v a within passed ka step. ⊎_elim
      (λ before. r.closed k key v a within (inl before) ka step)
      (λ at. ⊎_elim
      (λ early. r.closed k key v a within (inr (at.0, early)) ka step)
      (λ late.
      let ka' : Knows known (slice_index order i) a = subst (λ j. Knows known (slice_index order j) a) at.0 ka in
      let step' : StepsTo after (slice_index order i) (segment_numbered after.net.graph key) v = subst (λ j. StepsTo after (slice_index order j) (segment_numbered after.net.graph key) v) at.0 step in
      let q = all key v late at.1 step' in
      (q.0, q.1, inl (is_lower after known order i cur key r inside late a v q.0 ka' q.1)))
      (cases_lt key cur))
      passed;
  low = λ a w b within ka kb. ⊎_elim (λ below. inl below) (λ p. inr (p.0, (let lt : p.0 < cur = p.1 in omega arith), p.2)) (r.low a w b within ka kb);
}

-- a segment whose end is new
module _ (after : Aftermath) (known : List (Option Path)) (order : List ℕ) (i cur v : ℕ) (a : Path) (r : IsSearch after known order i cur) (row : IsRow after.net.graph after.failed after.source after.post) (inside : i < length order) (ka : Knows known (slice_index order i) a) (within : v < node_count after.net.graph) (fresh : slice_index_or known v None ≡ None) (step : StepsTo after (slice_index order i) (segment_numbered after.net.graph cur) v) (one : (w : ℕ) → StepsTo after (slice_index order i) (segment_numbered after.net.graph cur) w → w ≡ v) (known' : List (Option Path)) (order' : List ℕ) (set_is : known' ≡ set known v (Some (push a (segment_numbered after.net.graph cur)))) (order_is : order' ≡ order ++ v ∷ []) where
  room : v < length known
  room = omega (arith, r.long)

  keeps : (w : ℕ) (b : Path) → Knows known w b → Knows known' w b
  keeps w b k = rw set_is (knows-kept known v (push a (segment_numbered after.net.graph cur)) room fresh w b k)

  new_known : Knows known' v (push a (segment_numbered after.net.graph cur))
  new_known = rw set_is (knows-new known v (push a (segment_numbered after.net.graph cur)) room fresh)

  back : (w : ℕ) (b : Path) → Knows known' w b
      → ((w ≡ v) × (b ≡ push a (segment_numbered after.net.graph cur))) ⊎ Knows known w b
  back w b k = knows-back known v (push a (segment_numbered after.net.graph cur)) room fresh w b (rw set_is at k)

  length_is : length order' ≡ length order + 1
  length_is = rw order_is (omega (arith, length-append order (v ∷ [])))

  old_at : (k : ℕ) → k < length order → slice_index order' k ≡ slice_index order k
  old_at k lt = rw order_is (get_or_append_left order (v ∷ []) 0 k lt)

  new_at : slice_index order' (length order) ≡ v
  new_at = rw order_is (get_or_push order v 0 (length order) refl)

  back_at : (k : ℕ) (b : Path) → k < length order → Knows known' (slice_index order' k) b
      → Knows known (slice_index order k) b
  back_at k b lt kb =
      ⊎_elim
      (λ e. let f = r.found k lt in absurd (other_than known v (push a (segment_numbered after.net.graph cur)) room fresh (slice_index order k) f.1.0 f.1.1 e.0))
      (λ old. old)
      (back (slice_index order k) b (subst (λ j. Knows known' j b) (old_at k lt) kb))

  closed_old : (k key w : ℕ) (b : Path) → k < length order → WasLookedAt after.net.graph k key i (cur + 1)
      → Knows known (slice_index order k) b → StepsTo after (slice_index order k) (segment_numbered after.net.graph key) w
      → (d : Path) × Knows known' w d × PathLe d (push b (segment_numbered after.net.graph key))
  closed_old k key w b old passed kb st =
      ⊎_elim
      (λ before. let q = r.closed k key w b old (inl before) kb st in (q.0, keeps w q.0 q.1, q.2))
      (λ at. ⊎_elim
      (λ (e : key ≡ cur).
      let P : ℕ → ℕ → Type 0 = λ k' key'. Knows known (slice_index order k') b → StepsTo after (slice_index order k') (segment_numbered after.net.graph key') w → (d : Path) × Knows known' w d × PathLe d (push b (segment_numbered after.net.graph key')) in
      let at_cur : P i cur = λ kb' st'.
      (let z : Some a ≡ Some b = sym ka ∙ kb' in
      let same : a ≡ b = cc in
      (push a (segment_numbered after.net.graph cur), subst (λ j. Knows known' j (push a (segment_numbered after.net.graph cur))) (sym (one w st')) new_known, inr (ap (λ c. push c (segment_numbered after.net.graph cur)) same))) in
      subst (λ k'. P k' key) (sym at.0) (subst (λ key'. P i key') (sym e) at_cur) kb st)
      (λ (ne : key ≢ cur). let q = r.closed k key w b old (inr (at.0, (let lt : key < cur + 1 = at.1 in omega arith))) kb st in (q.0, keeps w q.0 q.1, q.2))
      (cases_eq key cur))
      passed

  pub search-push : IsSearch after known' order' i (cur + 1)
  search-push = record {
    long = rw set_is (length-set known v (Some (push a (segment_numbered after.net.graph cur))) ∙ r.long);
    sized = rw set_is (length_is ∙ omega (arith, r.sized, count-new known v (push a (segment_numbered after.net.graph cur)) (omega (arith, r.long)) fresh));
    exact = λ w b k. ⊎_elim
        (λ e. rw (e.0, e.1) (within, exact-step after (slice_index order i) v a (segment_numbered after.net.graph cur) row (r.exact _ a ka).0 within (r.exact _ a ka).1 step))
        (λ old. r.exact w b old)
        (back w b k);
    starts = λ w first e. let q = r.starts w first e in (q.0, keeps w q.0 q.1, q.2);
    listed = λ w b k. ⊎_elim
        (λ e. (length order, omega (arith, length_is), new_at ∙ sym e.0))
        (λ old. let q = r.listed w b old in (q.0, omega (arith, length_is, q.1), old_at q.0 q.1 ∙ q.2))
        (back w b k);
    found = λ k lt. ⊎_elim
        (λ old. let q = r.found k old in rw (old_at k old) (q.0, (q.1.0, keeps _ q.1.0 q.1.1)))
        (λ late. let e : k ≡ length order = omega (arith, length_is) in rw (e, new_at) (within, (push a (segment_numbered after.net.graph cur), new_known)))
        (cases_lt k (length order));
    ascending = λ j k b d lt inside' kb kd. ⊎_elim
        (λ old. r.ascending j k b d lt old (back_at j b (omega arith) kb) (back_at k d old kd))
        (λ late.
        let e : k ≡ length order = omega (arith, length_is) in
        let low : PathLt b (push a (segment_numbered after.net.graph cur)) = is_lower after known order i cur cur r inside (omega arith) a (slice_index order j) b ka (back_at j b (omega arith) kb) in
        let at_v : Knows known' v d = subst (λ w. Knows known' w d) new_at (subst (λ m. Knows known' (slice_index order' m) d) e kd) in
        let same : Some d ≡ Some (push a (segment_numbered after.net.graph cur)) = sym at_v ∙ new_known in
        let same' : push a (segment_numbered after.net.graph cur) ≡ d = cc in
        subst (λ c. PathLt b c) same' low)
        (cases_lt k (length order));
    closed = λ k key w b lt passed kb st. ⊎_elim
        (λ old.
        let kb' : Knows known (slice_index order k) b = back_at k b old kb in
        let st' : StepsTo after (slice_index order k) (segment_numbered after.net.graph key) w = subst (λ j. StepsTo after j (segment_numbered after.net.graph key) w) (old_at k old) st in
        closed_old k key w b old passed kb' st')
        (λ late. absurd (⊎_elim (λ p. let lt' : k < i = p.0 in omega arith) (λ p. let e : k ≡ i = p.0 in omega arith) passed))
        (cases_lt k (length order));
    low = λ b w d lt kb kd.
        let kb' : Knows known (slice_index order i) b = back_at i b inside kb in
        let z : Some a ≡ Some b = sym ka ∙ kb' in
        let same : a ≡ b = cc in
        ⊎_elim
        (λ e. inr (cur, omega arith, e.1 ∙ ap (λ c. push c (segment_numbered after.net.graph cur)) same))
        (λ old. ⊎_elim (λ all. inl all) (λ p. inr (p.0, (let lt' : p.0 < cur = p.1 in omega arith), p.2)) (r.low b w d inside kb' old))
        (back w d kd);
  }

-- the next waypoint of the order
pub search-next : (after : Aftermath) (known : List (Option Path)) (order : List ℕ) (i : ℕ)
    → IsSearch after known order i (key_count after.net.graph) → i < length order
    → IsSearch after known order (i + 1) 0
search-next after known order i r inside = record {
  long = r.long;
  sized = r.sized;
  exact = r.exact;
  starts = r.starts;
  listed = r.listed;
  found = r.found;
  ascending = r.ascending;
  closed = λ k key v a lt passed ka step. ⊎_elim
      (λ before. r.closed k key v a lt (⊎_elim (λ (e : k ≡ i). inr (e, before.1)) (λ (ne : k ≢ i). inl ((let lt' : k < i + 1 = before.0 in omega arith), before.1)) (cases_eq k i)) ka step)
      (λ at. let z : key < 0 = at.1 in absurd (omega arith))
      passed;
  low = λ a w b lt ka kb.
      let f = r.found i inside in
      let up : PathLt f.1.0 a = r.ascending i (i + 1) f.1.0 a (omega arith) lt f.1.1 ka in
      inl (λ t. ⊎_elim
      (λ all. PathLt-trans b (push f.1.0 t) (push a t) (all t) (PathLt-push f.1.0 a t t up))
      (λ p. subst (λ c. PathLt c (push a t)) (sym p.2) (PathLt-push f.1.0 a (segment_numbered after.net.graph p.0) t up))
      (r.low f.1.0 w b inside f.1.1 kb));
}

-- where a segment leads is a node
pub leads-within : (n : Net) (x : List Bool) → IsGraph n.graph → (v w e : ℕ) (t : Segment) → Routes n x w (t ∷ []) v e
    → v < node_count n.graph
leads-within n x g v w e (Node k) a = rw (← a.7.0) a.3
leads-within n x g v w e (Adj l) a = rw (← a.5.0) ((g.each l.0 a.1).1)

pub search-short : (after : Aftermath) (known : List (Option Path)) (order : List ℕ) (i cur : ℕ)
    → IsSearch after known order i cur → length order ≤ node_count after.net.graph
search-short after known order i cur r = omega (arith, r.sized, r.long, count_by-le-length is_some known)

-- a first link that adds nothing
pub start-more : (after : Aftermath) (known : List (Option Path)) (order : List ℕ) (l : ℕ) → IsStart after known order l
    → ((w : ℕ) → IsExact after.net after.failed after.source w (record { first = l; segments = [] })
    → (a : Path) × Knows known w a)
    → IsStart after known order (l + 1)
start-more after known order l r here = record {
  long = r.long;
  sized = r.sized;
  exact = r.exact;
  listed = r.listed;
  found = r.found;
  ascending = r.ascending;
  starts = λ w first lt e. ⊎_elim
      (λ (same : first ≡ l).
      let P : ℕ → Type 0 = λ f. IsExact after.net after.failed after.source w (record { first = f; segments = [] }) → (a : Path) × Knows known w a × PathLe a (record { first = f; segments = [] }) in
      subst P (sym same) (λ e'. let q = here w e' in let p = r.plain w q.0 q.1 in (q.0, q.1, inl (inr (ap length p.0, inl p.1)))) e)
      (λ (ne : first ≢ l). r.starts w first (omega arith) e)
      (cases_eq first l);
  plain = λ w a k. let p = r.plain w a k in (p.0, (let lt : a.first < l = p.1 in omega arith));
}

-- a first link to a new waypoint
pub start-push : (after : Aftermath) (known : List (Option Path)) (order : List ℕ) (l v : ℕ) → IsStart after known order l → v < node_count after.net.graph → slice_index_or known v None ≡ None → IsExact after.net after.failed after.source v (record { first = l; segments = [] }) → v ≡ head after.net.graph l → IsStart after (set known v (Some (record { first = l; segments = [] }))) (order ++ v ∷ []) (l + 1)
start-push after known order l v r inside fresh exact is_head =
    let c : Path = record { first = l; segments = [] } in
    let within : v < length known = omega (arith, r.long) in
    let long' : length (order ++ v ∷ []) ≡ length order + 1 = length-append order (v ∷ []) in
    let old_at = λ (k : ℕ) (lt : k < length order). get_or_append_left order (v ∷ []) 0 k lt in
    let new_at : slice_index (order ++ v ∷ []) (length order) ≡ v = get_or_push order v 0 (length order) refl in
    let kept = knows-kept known v (record { first = l; segments = [] }) within fresh in
    let new = knows-new known v (record { first = l; segments = [] }) within fresh in
    let back = knows-back known v (record { first = l; segments = [] }) within fresh in
    let back_at : (k : ℕ) (b : Path) → k < length order → Knows (set known v (Some (record { first = l; segments = [] }))) (slice_index (order ++ v ∷ []) k) b → Knows known (slice_index order k) b =
    λ k b lt kb. ⊎_elim
    (λ e. let f = r.found k lt in absurd (other_than known v (record { first = l; segments = [] }) within fresh (slice_index order k) f.1.0 f.1.1 e.0))
    (λ old. old)
    (back (slice_index order k) b (subst (λ j. Knows (set known v (Some (record { first = l; segments = [] }))) j b) (old_at k lt) kb)) in
    record {
      long = length-set known v (Some (record { first = l; segments = [] })) ∙ r.long;
      sized = long' ∙ omega (arith, r.sized, count-new known v (record { first = l; segments = [] }) within fresh);
      exact = λ w b k. ⊎_elim (λ e. rw (e.0, e.1) (inside, exact)) (λ old. r.exact w b old) (back w b k);
      listed = λ w b k. ⊎_elim
          (λ e. (length order, omega (arith, long'), new_at ∙ sym e.0))
          (λ old. let q = r.listed w b old in (q.0, omega (arith, long', q.1), old_at q.0 q.1 ∙ q.2))
          (back w b k);
      found = λ k lt. ⊎_elim
          (λ old. let q = r.found k old in rw (old_at k old) (q.0, (q.1.0, kept _ q.1.0 q.1.1)))
          (λ late. let e : k ≡ length order = omega (arith, long') in rw (e, new_at) (inside, (record { first = l; segments = [] }, new)))
          (cases_lt k (length order));
      ascending = λ j k b d lt inside' kb kd. ⊎_elim
          (λ old. r.ascending j k b d lt old (back_at j b (omega arith) kb) (back_at k d old kd))
          (λ late.
          let e : k ≡ length order = omega (arith, long') in
          let p = r.plain (slice_index order j) b (back_at j b (omega arith) kb) in
          let at_v : Knows (set known v (Some (record { first = l; segments = [] }))) v d = subst (λ w. Knows (set known v (Some (record { first = l; segments = [] }))) w d) new_at (subst (λ m. Knows (set known v (Some (record { first = l; segments = [] }))) (slice_index (order ++ v ∷ []) m) d) e kd) in
          let same : Some (record { first = l; segments = [] }) ≡ Some d = sym new ∙ at_v in
          let same' : record { first = l; segments = [] } ≡ d = cc in
          subst (λ c. PathLt b c) same' (inr (ap length p.0, inl p.1)))
          (cases_lt k (length order));
      starts = λ w first lt e. ⊎_elim
          (λ (same : first ≡ l).
          let P : ℕ → Type 0 = λ f. IsExact after.net after.failed after.source w (record { first = f; segments = [] }) → (a : Path) × Knows (set known v (Some (record { first = l; segments = [] }))) w a × PathLe a (record { first = f; segments = [] }) in
          subst P (sym same) (λ e'. (record { first = l; segments = [] }, subst (λ j. Knows (set known v (Some (record { first = l; segments = [] }))) j (record { first = l; segments = [] })) (is_head ∙ e'.leads.0) new, inr refl)) e)
          (λ (ne : first ≢ l). let q = r.starts w first (omega arith) e in (q.0, kept w q.0 q.1, q.2))
          (cases_eq first l);
      plain = λ w a k. ⊎_elim
          (λ e. rw e.1 (refl, omega arith))
          (λ old. let p = r.plain w a old in (p.0, (let lt : a.first < l = p.1 in omega arith)))
          (back w a k);
    }

pub search-from_start : (after : Aftermath) (known : List (Option Path)) (order : List ℕ)
    → IsStart after known order (link_count after.net.graph) → IsSearch after known order 0 0
search-from_start after known order r = record {
  long = r.long;
  sized = r.sized;
  exact = r.exact;
  listed = r.listed;
  found = r.found;
  ascending = r.ascending;
  starts = λ w first e. r.starts w first e.within e;
  closed = λ k key v a lt passed ka step. absurd (⊎_elim (λ p. let z : k < 0 = p.0 in omega arith) (λ p. let z : key < 0 = p.1 in omega arith) passed);
  low = λ a w b lt ka kb. inl (λ t. let p = r.plain w b kb in inl (omega (arith, ap length p.0, length-append a.segments (t ∷ []))));
}

-- what makes a first link a list to its end
pub start-exact : (after : Aftermath) (l : ℕ) → IsGraph after.net.graph → IsRow after.net.graph after.failed after.source after.post → l < link_count after.net.graph → tail after.net.graph l ≡ after.source → has after.failed l ≡ false → metric after.net.graph l ≡ get_or after.post (head after.net.graph l) 0 → IsExact after.net after.failed after.source (head after.net.graph l) (record { first = l; segments = [] })
start-exact after l g row within begins outside is = record {
  within = within;
  begins = begins;
  outside = outside;
  middle = 0;
  leads = (refl, refl);
  fits = let z : get_or after.post (head after.net.graph l) 0 ≡ metric after.net.graph l + 0 = omega arith in subst (λ k. IsDistance after.net.graph after.failed after.source (head after.net.graph l) k) z (row-distance after.net.graph after.failed after.source after.post (head after.net.graph l) (l ∷ []) row ((g.each l within).1) (within, outside, begins, refl, tt));
}

pub start-is : (after : Aftermath) (l w : ℕ) → IsGraph after.net.graph → IsRow after.net.graph after.failed after.source after.post → (e : IsExact after.net after.failed after.source w (record { first = l; segments = [] })) → (w ≡ head after.net.graph l) × (metric after.net.graph l ≡ get_or after.post (head after.net.graph l) 0)
start-is after l w g row e =
    let same : head after.net.graph l ≡ w = e.leads.0 in
    let r = row-exact after w (record { first = l; segments = [] }) row (rw (← same) ((g.each l e.within).1)) e in
    (sym same, rw same (omega (arith, r, e.leads.1)))

pub none-replicate : (m w : ℕ) → slice_index_or (replicate {A = Option Path} m None) w None ≡ None
none-replicate m w = ⊎_elim (λ lt. get_or-replicate m w None None lt) (λ ge. get_or_past (replicate {A = Option Path} m None) w None (let e : length (replicate {A = Option Path} m None) ≡ m = length-replicate m None in omega arith)) (cases_lt w m)

-- nothing is known yet
pub start-empty : (after : Aftermath) → IsStart after (replicate (node_count after.net.graph) None) [] 0
start-empty after =
    let no = λ (w : ℕ) (a : Path) (k : Knows (replicate (node_count after.net.graph) None) w a). (let z : None ≡ Some a = sym (none-replicate (node_count after.net.graph) w) ∙ k in let y : ⊥ = cc in y) in
    record {
      long = length-replicate (node_count after.net.graph) None;
      sized = sym (sum_by-replicate (λ o. cond (is_some o) 1 0) (node_count after.net.graph) None ∙ omega arith);
      exact = λ w a k. absurd (no w a k);
      listed = λ w a k. absurd (no w a k);
      found = λ k lt. absurd (omega arith);
      ascending = λ j k a b lt lt' ka kb. absurd (no _ a ka);
      starts = λ w first lt e. absurd (omega arith);
      plain = λ w a k. absurd (no w a k);
    }

-- a link that begins elsewhere
pub no-step : (after : Aftermath) (w key v : ℕ) → node_count after.net.graph ≤ key
    → (tail after.net.graph (key - node_count after.net.graph) ≡ w → ⊥)
    → StepsTo after w (segment_numbered after.net.graph key) v → ⊥
no-step after w key v high apart step =
    let is : segment_numbered after.net.graph key ≡ Adj (record { 0 = key - node_count after.net.graph }) =
    cond_both (nat_lt key (node_count after.net.graph)) (Node (record { 0 = key })) (Adj (record { 0 = key - node_count after.net.graph })) (λ r. r ≡ Adj (record { 0 = key - node_count after.net.graph }))
    (λ low. let l : key < node_count after.net.graph = ltb-true key (node_count after.net.graph) low in absurd (omega arith)) (λ _. refl) in
    let leads : Routes after.net after.failed w (Adj (record { 0 = key - node_count after.net.graph }) ∷ []) v step.cost = rw is at step.leads in
    apart leads.2

-- nothing leads on from a waypoint that is overloaded
pub no-step_from : (after : Aftermath) (w v : ℕ) (t : Segment) → is_overloaded after.net.graph w ≡ true
    → StepsTo after w t v → ⊥
no-step_from after w v (Node k) over step = let z : is_overloaded after.net.graph w ≡ false = step.leads.9 in cc
no-step_from after w v (Adj l) over step = let z : is_overloaded after.net.graph w ≡ false = step.leads.7 in cc

-- past the links of the waypoint
pub search-past : (after : Aftermath) (known : List (Option Path)) (order : List ℕ) (i l end : ℕ)
    → IsSearch after known order i (node_count after.net.graph + l) → i < length order
    → l ≤ link_count after.net.graph
    → ((k : ℕ) → k < link_count after.net.graph → tail after.net.graph k ≡ slice_index order i → k < end) → end ≤ l
    → IsSearch after known order i (key_count after.net.graph)
search-past after known order i l end r inside within to over =
    search-over after known order i (node_count after.net.graph + l) (key_count after.net.graph) r inside (omega arith)
    (λ key v at below step. absurd (no-step after (slice_index order i) key v (omega arith)
    (λ begins. let lt : key - node_count after.net.graph < end = to (key - node_count after.net.graph) (omega arith) begins in omega arith)
    step))

-- up to the links of the waypoint
pub search-upto : (after : Aftermath) (known : List (Option Path)) (order : List ℕ) (i first : ℕ)
    → IsSearch after known order i (node_count after.net.graph) → i < length order
    → first ≤ link_count after.net.graph
    → ((k : ℕ) → k < link_count after.net.graph → tail after.net.graph k ≡ slice_index order i → first ≤ k)
    → IsSearch after known order i (node_count after.net.graph + first)
search-upto after known order i first r inside within to =
    search-over after known order i (node_count after.net.graph) (node_count after.net.graph + first) r inside (omega arith)
    (λ key v at below step. absurd (no-step after (slice_index order i) key v at
    (λ begins. let le : first ≤ key - node_count after.net.graph = to (key - node_count after.net.graph) (omega arith) begins in omega arith)
    step))

-- all segments of a waypoint that is overloaded
pub search-pass : (after : Aftermath) (known : List (Option Path)) (order : List ℕ) (i : ℕ)
    → IsSearch after known order i 0 → i < length order → is_overloaded after.net.graph (slice_index order i) ≡ true
    → IsSearch after known order (i + 1) 0
search-pass after known order i r inside over =
    search-next after known order i
    (search-over after known order i 0 (key_count after.net.graph) r inside (omega arith)
    (λ key v at below step. absurd (no-step_from after (slice_index order i) v (segment_numbered after.net.graph key) over step)))
    inside

-- first links that begin elsewhere
pub start-jump : (after : Aftermath) (known : List (Option Path)) (order : List ℕ) (l next : ℕ)
    → IsStart after known order l → l ≤ next → ((k : ℕ) → l ≤ k → k < next → k < link_count after.net.graph
    → tail after.net.graph k ≡ after.source → ⊥) → IsStart after known order next
start-jump after known order l next r up none = record {
  long = r.long;
  sized = r.sized;
  exact = r.exact;
  listed = r.listed;
  found = r.found;
  ascending = r.ascending;
  starts = λ w first lt e. ⊎_elim
      (λ early. r.starts w first early e)
      (λ late. absurd (none first late lt e.within e.begins))
      (cases_lt first l);
  plain = λ w a k. let p = r.plain w a k in (p.0, (let lt : a.first < l = p.1 in omega arith));
}
