-- Next hops told by sums of cells, and their lists as they grow.
use Rattle.std.proofs.Common.{◌≡◌, ◌≢◌, ℕ, ◌+◌, ◌-◌, ◌*◌, ◌<◌, ◌≤◌, ⊎_elim, true, List, [], ◌∷◌, ◌++◌, append_assoc, length, refl, arith, ap, sym, ◌∙◌, subst}
use Rattle.std.specs.Prelude.{Some, slice_get, slice_index, slice_range, take, drop}
use Rattle.std.proofs.Math.Seq.{drop-append_seam}
use Rattle.std.proofs.lemmas.Bool.{cases_eq}
use Rattle.std.proofs.lemmas.List.{length_push, get_or_push, get_or_append_left, length-append, length-drop, take_all, take-append-le, drop-append-le, append-nil}
use Rattle.sr_model.specs.declared.link.TheConstants.{FAR}
use Rattle.sr_model.specs.declared.link.LinkNo.{LinkNo}
use Rattle.sr_model.specs.Graph.{Graph, node_count, link_count, tail, head, metric, carries, link_at, IsGraph, IsLink}
use Rattle.sr_model.specs.Walk.{IsNextHop, IsCell}
use Rattle.sr_walks.proofs.Distances.{cell-distance, IsNextHop-from_sum, sum-from_IsNextHop}
use Rattle.sr_spf.specs.Hops.{AreNextHops, AddsNextHops, AreHopsFrom, IsCut, hops_to}
use Rattle.sr_spf.specs.Trees.{AreRows, row_at}
use Rattle.sr_seq.proofs.ListLemmas.{get-left, get-last, get-push}
use Rattle.std.proofs.lemmas.Option.{slice_get_within}

-- the cell of node v in the row of node u
abbrev pub cell_in : List (List ℕ) → ℕ → ℕ → ℕ
cell_in rows u v = slice_index (row_at rows u) v

pub is_cell : (g : Graph) (rows : List (List ℕ)) (u v : ℕ) → AreRows g rows (node_count g) → u < node_count g → v < node_count g → IsCell g [] u v (cell_in rows u v)
is_cell g rows u v r a b = (r.each u a).each v b

-- a link whose metric and the cell of its end add up to the cell is a next hop
pub hop-from_test : (g : Graph) (rows : List (List ℕ)) (u v l : ℕ) → IsGraph g → AreRows g rows (node_count g) → v < node_count g → l < link_count g → tail g l ≡ u → cell_in rows u v < FAR → carries g v (head g l) ≡ true → metric g l + cell_in rows (head g l) v ≡ cell_in rows u v → IsNextHop g [] u v l
hop-from_test g rows u v l graph r b within begins near to sum =
    let k : IsLink g (link_at g l) = graph.each l within in
    let a : u < node_count g = omega arith in
    IsNextHop-from_sum g [] u v l (cell_in rows (head g l) v) within refl begins to
    ((is_cell g rows (head g l) v r k.1 b).near (omega arith))
    (rw sum ((is_cell g rows u v r a b).near near))

-- and only such a link
pub test-from_hop : (g : Graph) (rows : List (List ℕ)) (u v l : ℕ) → IsGraph g → AreRows g rows (node_count g) → u < node_count g → v < node_count g → cell_in rows u v < FAR → IsNextHop g [] u v l → (carries g v (head g l) ≡ true) × (metric g l + cell_in rows (head g l) v ≡ cell_in rows u v)
test-from_hop g rows u v l graph r a b near hop =
    let s = sum-from_IsNextHop g [] u v l (cell_in rows u v) ((is_cell g rows u v r a b).near near) hop in
    let k : IsLink g (link_at g l) = graph.each l s.0 in
    let same : cell_in rows (head g l) v ≡ s.2.0 = cell-distance g [] (head g l) v _ s.2.0 (is_cell g rows (head g l) v r k.1 b) s.2.1 (omega (arith, s.2.2)) in
    (s.3, omega (arith, s.2.2))

-- a node that is not reached has no next hops
pub no_hop : (g : Graph) (rows : List (List ℕ)) (u v l : ℕ) → AreRows g rows (node_count g) → u < node_count g → v < node_count g → FAR ≤ cell_in rows u v → IsNextHop g [] u v l → ⊥
no_hop g rows u v l r a b far hop = (is_cell g rows u v r a b).far far (l ∷ hop.more) hop.shortest.0

-- of the links below n, the next hops stand behind the links that there were
pub record AddsHopsBelow (g : Graph) (u v n : ℕ) (before after : List LinkNo) : Type 0 where
  pub added : List LinkNo
  pub joined : after ≡ before ++ added
  pub each : (i : ℕ) (l : LinkNo) → slice_get added i ≡ Some l → IsNextHop g [] u v l.0 × (l.0 < n)
  pub ascending : (i j : ℕ) (k l : LinkNo) → i < j → slice_get added i ≡ Some k → slice_get added j ≡ Some l → k.0 < l.0
  pub all : (l : ℕ) → l < n → IsNextHop g [] u v l → (i : ℕ) × (k : LinkNo) × (slice_get added i ≡ Some k) × (k.0 ≡ l)

pub hops-none : (g : Graph) (u v n : ℕ) (links : List LinkNo) → ((l : ℕ) → l < n → IsNextHop g [] u v l → ⊥) → AddsHopsBelow g u v n links links
hops-none g u v n links none = record {
  added = [];
  joined = sym (append-nil links);
  each = λ i l e. absurd {0} (cc);
  ascending = λ i j k l lt e f. absurd {0} (cc);
  all = λ l lt hop. absurd (none l lt hop);
}

pub hops-skip : (g : Graph) (u v n : ℕ) (before after : List LinkNo) → AddsHopsBelow g u v n before after → (IsNextHop g [] u v n → ⊥) → AddsHopsBelow g u v (n + 1) before after
hops-skip g u v n before after h not = record {
  added = h.added;
  joined = h.joined;
  each = λ i l e. ((h.each i l e).0, omega (arith, (h.each i l e).1));
  ascending = h.ascending;
  all = λ l lt hop. ⊎_elim
      (λ (e : l ≡ n). let P : ℕ → Type 0 = λ k. IsNextHop g [] u v k in absurd (not (subst P e hop)))
      (λ (ne : l ≢ n). h.all l (omega arith) hop)
      (cases_eq l n);
}

pub hops-push : (g : Graph) (u v n : ℕ) (before after : List LinkNo) (link : LinkNo) → AddsHopsBelow g u v n before after → IsNextHop g [] u v n → link.0 ≡ n → AddsHopsBelow g u v (n + 1) before (after ++ link ∷ [])
hops-push g u v n before after link h hop is = record {
  added = h.added ++ link ∷ [];
  joined = ap (λ k. k ++ link ∷ []) h.joined ∙ append_assoc before h.added (link ∷ []);
  each = λ i l e. ⊎_elim
      (λ o. ((h.each i l o).0, omega (arith, (h.each i l o).1)))
      (λ o. let same : l.0 ≡ n = ap (λ k. k.0) (sym o.1) ∙ is in let P : ℕ → Type 0 = λ k. IsNextHop g [] u v k in (subst P (sym same) hop, omega arith))
      (get-push h.added link i l e);
  ascending = λ i j k l lt e f. ⊎_elim
      (λ o. ⊎_elim
      (λ p. h.ascending i j k l lt p o)
      (λ p. let z : j < length h.added = slice_get_within h.added j l o in absurd (omega (arith, p.0)))
      (get-push h.added link i k e))
      (λ o. ⊎_elim
      (λ p. omega (arith, (h.each i k p).1, ap (λ (w : LinkNo). w.0) o.1))
      (λ p. absurd (omega (arith, p.0, o.0)))
      (get-push h.added link i k e))
      (get-push h.added link j l f);
  all = λ l lt other. ⊎_elim
      (λ (e : l ≡ n). (length h.added, link, get-last h.added link, is ∙ sym e))
      (λ (ne : l ≢ n). let o : (i : ℕ) × (k : LinkNo) × (slice_get h.added i ≡ Some k) × (k.0 ≡ l) = h.all l (omega arith) other in (o.0, o.1, get-left h.added (link ∷ []) o.0 o.1 o.2, o.3))
      (cases_eq l n);
}

pub hops-whole : (g : Graph) (u v n : ℕ) (before after : List LinkNo) → AddsHopsBelow g u v n before after → ((l : ℕ) → IsNextHop g [] u v l → l < n) → AddsNextHops g u v before after
hops-whole g u v n before after h below = record {
  added = h.added;
  joined = h.joined;
  hops = record { each = λ i l e. (h.each i l e).0; ascending = h.ascending; all = λ l hop. h.all l (below l hop) hop };
}

-- the places and links as they stand when the next hops towards the nodes below n are found
pub record AreHopsBelow (g : Graph) (u n : ℕ) (starts : List ℕ) (links : List LinkNo) : Type 0 where
  pub long : length starts ≡ n + 1
  pub last : slice_index starts n ≡ length links
  pub cut : IsCut (record { starts = starts; links = links })
  pub few : length links ≤ 2048 * n
  pub each : (v : ℕ) → v < n → AreNextHops g u v (hops_to (record { starts = starts; links = links }) v)

pub table-none : (g : Graph) (u : ℕ) → AreHopsBelow g u 0 (0 ∷ []) []
table-none g u = record {
  long = refl;
  last = refl;
  cut = record { ascending = λ v lt. absurd (omega arith); within = λ v lt. let z : v ≡ 0 = omega arith in rw z (omega arith) };
  few = omega arith;
  each = λ v lt. absurd (omega arith);
}

-- what stands in a range does not change where the list grows behind it
range_left : (xs ys : List LinkNo) (i j : ℕ) → i ≤ j → j ≤ length xs → slice_range (xs ++ ys) i j ≡ slice_range xs i j
range_left xs ys i j le within =
    let long : length (drop i xs) ≡ length xs - i = length-drop i xs in
    ap (λ k. take (j - i) k) (drop-append-le i xs ys (omega arith)) ∙ take-append-le (j - i) (drop i xs) ys (omega arith)

range_new : (xs ys : List LinkNo) → slice_range (xs ++ ys) (length xs) (length xs + length ys) ≡ ys
range_new xs ys = ap (λ k. take (length xs + length ys - length xs) k) (drop-append_seam xs ys) ∙ take_all _ ys (omega arith)

pub table-more : (g : Graph) (u n : ℕ) (starts : List ℕ) (links after : List LinkNo) → AreHopsBelow g u n starts links → AddsNextHops g u n links after → length after ≤ length links + 2048 → AreHopsBelow g u (n + 1) (starts ++ length after ∷ []) after
table-more g u n starts links after t a few =
    let longer : length after ≡ length links + length a.added = ap length a.joined ∙ length-append links a.added in
    let old : (v : ℕ) → v < n + 1 → slice_index (starts ++ length after ∷ []) v ≡ slice_index starts v = λ v lt. get_or_append_left starts (length after ∷ []) 0 v (omega (arith, t.long)) in
    let new : slice_index (starts ++ length after ∷ []) (n + 1) ≡ length after = get_or_push starts (length after) 0 (n + 1) t.long in
    let low : (v : ℕ) → v < n + 1 → slice_index starts v ≤ length links = λ v lt. t.cut.within v (omega (arith, t.long)) in
    record {
      long = length_push starts (length after) ∙ omega (arith, t.long);
      last = new;
      cut = record {
        ascending = λ v lt. ⊎_elim
            (λ (e : v ≡ n). rw (e, new, old n (omega arith)) (omega (arith, low n (omega arith))))
            (λ (ne : v ≢ n). let below : v + 1 < n + 1 = omega (arith, length_push starts (length after), t.long) in rw (old v (omega arith), old (v + 1) below) (t.cut.ascending v (omega (arith, t.long))))
            (cases_eq v n);
        within = λ v lt. ⊎_elim
            (λ (e : v ≡ n + 1). rw (e, new) (omega arith))
            (λ (ne : v ≢ n + 1). let below : v < n + 1 = omega (arith, length_push starts (length after), t.long) in rw (old v below) (omega (arith, low v below)))
            (cases_eq v (n + 1));
      };
      few = omega (arith, t.few);
      each = λ v lt. ⊎_elim
          (λ (e : v ≡ n).
          let here : hops_to (record { starts = starts ++ length after ∷ []; links = after }) n ≡ a.added =
          ap (λ k. slice_range after k (slice_index (starts ++ length after ∷ []) (n + 1))) (old n (omega arith) ∙ t.last)
          ∙ ap (λ k. slice_range after (length links) k) (new ∙ longer)
          ∙ ap (λ k. slice_range k (length links) (length links + length a.added)) a.joined
          ∙ range_new links a.added in
          let P : ℕ → Type 0 = λ k. AreNextHops g u k (hops_to (record { starts = starts ++ length after ∷ []; links = after }) k) in
          subst P (sym e) (subst (λ k. AreNextHops g u n k) (sym here) a.hops))
          (λ (ne : v ≢ n).
          let below : v < n = omega arith in
          let same : hops_to (record { starts = starts ++ length after ∷ []; links = after }) v ≡ hops_to (record { starts = starts; links = links }) v =
          ap (λ k. slice_range after k (slice_index (starts ++ length after ∷ []) (v + 1))) (old v (omega arith))
          ∙ ap (λ k. slice_range after (slice_index starts v) k) (old (v + 1) (omega arith))
          ∙ ap (λ k. slice_range k (slice_index starts v) (slice_index starts (v + 1))) a.joined
          ∙ range_left links a.added (slice_index starts v) (slice_index starts (v + 1)) (t.cut.ascending v (omega (arith, t.long))) (low (v + 1) (omega arith)) in
          subst (λ k. AreNextHops g u v k) (sym same) (t.each v below))
          (cases_eq v n);
    }

pub table-whole : (g : Graph) (u : ℕ) (starts : List ℕ) (links : List LinkNo) → AreHopsBelow g u (node_count g) starts links → AreHopsFrom g u (record { starts = starts; links = links })
table-whole g u starts links t = record { long = t.long; each = t.each }
