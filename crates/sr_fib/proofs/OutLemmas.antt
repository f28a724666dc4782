-- Links towards a node, each with what becomes of its label, are its next hops as the model has them.
use Rattle.std.proofs.Common.{◌≡◌, ◌≢◌, ℕ, ◌<◌, inl, inr, ⊎_elim, Bool, true, false, cond, List, [], ◌∷◌, map, refl, ap, sym, ◌∙◌, subst, Some, get_or, arith}
use Rattle.std.proofs.lemmas.Bool.{cases_eq, eq-eqb, ne_eqb, eqb-true, not-true, not-false, not_from_true, not_from_false, and_parts, and_cases, and_from, and_left, and_right, both_ways, cond-true, cond-false, cond_both}
use Rattle.std.proofs.lemmas.Option.{slice_get-map, slice_get-get_or}
use Rattle.std.specs.Prelude.{◌==◌, ◌&&◌, not, slice_get, option_map}
use Rattle.sr_model.specs.declared.link.LinkNo.{LinkNo}
use Rattle.sr_model.specs.declared.entry.Out.{Out}
use Rattle.sr_model.specs.declared.entry.Out.TheVariants.{Pop, Swap, Null}
use Rattle.sr_model.specs.Graph.{Graph, node_count, link_count, link_at, head, IsGraph, IsLink}
use Rattle.sr_model.specs.Walk.{IsNextHop}
use Rattle.sr_model.specs.Label.{Net, labels_at, IsLabel}
use Rattle.sr_model.specs.Rule.{IsNet}
use Rattle.sr_model.specs.Table.{IsOut, AreHops}
use Rattle.sr_laws.proofs.Places.{map-from}
use Rattle.sr_spf.specs.Hops.{AreNextHops}
use Rattle.sr_fib.specs.declared.sorted.IndexedNode.{IndexedNode}
use Rattle.sr_fib.specs.Outs.{out_at, swap_at, label_of_index, label_or_0, hop_over, hops_over, hop_link, IsIndexed, AreLinksInside}

-- ---- what becomes of a label when a link is crossed
abbrev pops : Net → ℕ → ℕ → Bool
pops n b m = (m == b) && not (labels_at n b).keep

abbrev nulls : Net → ℕ → ℕ → Bool
nulls n b m = (m == b) && (labels_at n b).explicit

-- a label that isn't popped there is kept
kept : (n : Net) (b m : ℕ) → m ≡ b → pops n b m ≡ false → (labels_at n b).keep ≡ true
kept n b m same is = ⊎_elim
    (λ (other : (m == b) ≡ false). absurd (both_ways (m == b) other (eq-eqb m b same)))
    (λ (keeps : not (labels_at n b).keep ≡ false). not-false (labels_at n b).keep keeps)
    (and_cases (m == b) (not (labels_at n b).keep) is)

-- and one that isn't explicit null either is swapped
not_explicit : (n : Net) (b m : ℕ) → m ≡ b → nulls n b m ≡ false → (labels_at n b).explicit ≡ false
not_explicit n b m same is = ⊎_elim
    (λ (other : (m == b) ≡ false). absurd (both_ways (m == b) other (eq-eqb m b same)))
    (λ (plain : (labels_at n b).explicit ≡ false). plain)
    (and_cases (m == b) (labels_at n b).explicit is)

swap-out : (n : Net) (b m : ℕ) → IsLabel n m b (label_of_index (labels_at n m).srgb (labels_at n b).index) → pops n b m ≡ false → nulls n b m ≡ false → IsOut n b m (swap_at n b m)
swap-out n b m label is plain = (
  label,
  ⊎_elim
      (λ (same : m ≡ b). inr (kept n b m same is, not_explicit n b m same plain))
      (λ (ne : m ≢ b). inl ne)
      (cases_eq m b),
)

pub out-is : (n : Net) → IsNet n → (e : IndexedNode) (m : ℕ) → IsIndexed n e → m < node_count n.graph → IsOut n e.node.0 m (out_at n e.node.0 m)
out-is n r e m is within =
    let b : ℕ = e.node.0 in
    let inside = r.inside m e.node.0 e.index within is.within is.index in
    let named : label_of_index (labels_at n m).srgb (labels_at n e.node.0).index ≡ inside.0 = ap (label_of_index (labels_at n m).srgb) is.index ∙ ap label_or_0 inside.1 in
    let label : IsLabel n m e.node.0 (label_of_index (labels_at n m).srgb (labels_at n e.node.0).index) = (e.index, is.within, is.index, inside.1 ∙ ap (λ k. Some k) (sym named)) in
    cond_both (pops n e.node.0 m) Pop (cond (nulls n e.node.0 m) Null (swap_at n e.node.0 m)) (IsOut n e.node.0 m)
    (λ popped. let p = and_parts (m == e.node.0) (not (labels_at n e.node.0).keep) popped in (eqb-true m e.node.0 p.0, not-true (labels_at n e.node.0).keep p.1))
    (λ keeps. cond_both (nulls n e.node.0 m) Null (swap_at n e.node.0 m) (IsOut n e.node.0 m)
    (λ null.
    let p = and_parts (m == e.node.0) (labels_at n e.node.0).explicit null in
    let same : m ≡ e.node.0 = eqb-true m e.node.0 p.0 in
    (same, kept n e.node.0 m same keeps, p.1))
    (λ plain. swap-out n e.node.0 m label keeps plain))

-- no other thing becomes of it
pub out-one : (n : Net) (b m : ℕ) (o : Out) → IsOut n b m o → o ≡ out_at n b m
out-one n b m Pop is = sym (cond-true (pops n b m) Pop (cond (nulls n b m) Null (swap_at n b m)) (and_from (m == b) (not (labels_at n b).keep) (eq-eqb m b is.0) (not_from_false (labels_at n b).keep is.1)))
out-one n b m Null is =
    sym (cond-false (pops n b m) Pop (cond (nulls n b m) Null (swap_at n b m)) (and_right (m == b) (not (labels_at n b).keep) (not_from_true (labels_at n b).keep is.1))
    ∙ cond-true (nulls n b m) Null (swap_at n b m) (and_from (m == b) (labels_at n b).explicit (eq-eqb m b is.0) is.2))
out-one n b m (Swap t) is =
    let named : label_of_index (labels_at n m).srgb (labels_at n b).index ≡ t = ap (label_of_index (labels_at n m).srgb) is.0.2 ∙ ap label_or_0 is.0.3 in
    let keeps : pops n b m ≡ false = ⊎_elim
    (λ (ne : m ≢ b). and_left (m == b) (not (labels_at n b).keep) (ne_eqb m b ne))
    (λ flags. and_right (m == b) (not (labels_at n b).keep) (not_from_true (labels_at n b).keep flags.0))
    is.1 in
    let plain : nulls n b m ≡ false = ⊎_elim
    (λ (ne : m ≢ b). and_left (m == b) (labels_at n b).explicit (ne_eqb m b ne))
    (λ flags. and_right (m == b) (labels_at n b).explicit flags.1)
    is.1 in
    sym (cond-false (pops n b m) Pop (cond (nulls n b m) Null (swap_at n b m)) keeps
    ∙ cond-false (nulls n b m) Null (swap_at n b m) plain
    ∙ ap Swap named)

-- ---- next hops
head-within : (g : Graph) → IsGraph g → (l : ℕ) → l < link_count g → head g l < node_count g
head-within g graph l within = let k : IsLink g (link_at g l) = graph.each l within in k.1

pub links-inside : (n : Net) (u v : ℕ) (links : List LinkNo) → AreNextHops n.graph u v links → AreLinksInside n links
links-inside n u v links are = λ k d lt. (are.each k (get_or links k d) (slice_get-get_or links k d lt)).shortest.0.0

-- the links of the hops are the links
pub links-of : (n : Net) (b : ℕ) (links : List LinkNo) → links ≡ map hop_link (hops_over n b links)
links-of n b [] = refl
links-of n b (l ∷ ls) = ap (λ rest. l ∷ rest) (links-of n b ls)

-- the hop at a place
pub hop-at : (n : Net) (b : ℕ) (links : List LinkNo) (i : ℕ) (l : LinkNo) (m : ℕ) (o : Out) → slice_get links i ≡ Some l → m ≡ head n.graph l.0 → o ≡ out_at n b m → slice_get (hops_over n b links) i ≡ Some (l, o)
hop-at n b links i l m o at to is = slice_get-map (hop_over n b) links i ∙ ap (option_map (hop_over n b)) at ∙ ap (λ k. Some (l, k)) (sym (is ∙ ap (out_at n b) to))

-- next hops, each with what becomes of the label on it
pub hops-are : (n : Net) → IsNet n → (u : ℕ) (e : IndexedNode) (links : List LinkNo) → IsIndexed n e → AreNextHops n.graph u e.node.0 links → AreHops n u e.node.0 (hops_over n e.node.0 links)
hops-are n r u e links is are = record {
  each = λ i x at.
      let a = map-from (hop_over n e.node.0) links i x at in
      let hop = are.each i a.0 a.1 in
      let P : LinkNo × Out → Type 0 = λ h. IsNextHop n.graph [] u e.node.0 h.0.0 × IsOut n e.node.0 (head n.graph h.0.0) h.1 in
      subst P a.2 (hop, out-is n r e (head n.graph a.0.0) is (head-within n.graph r.graph a.0.0 hop.shortest.0.0));
  ascending = λ i j x y lt at next.
      let a = map-from (hop_over n e.node.0) links i x at in
      let b = map-from (hop_over n e.node.0) links j y next in
      let up : a.0.0 < b.0.0 = are.ascending i j a.0 b.0 lt a.1 b.1 in
      let low : a.0.0 ≡ x.0.0 = ap (λ (h : LinkNo × Out). h.0.0) a.2 in
      let high : b.0.0 ≡ y.0.0 = ap (λ (h : LinkNo × Out). h.0.0) b.2 in
      omega arith;
  all = λ l hop.
      let at = are.all l hop in
      (at.0, hop_over n e.node.0 at.1, slice_get-map (hop_over n e.node.0) links at.0 ∙ ap (option_map (hop_over n e.node.0)) at.2, at.3);
}
