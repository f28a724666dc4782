-- The nets in which nothing is lacking break no rule on labels.
use Rattle.std.proofs.Common.{◌≡◌, ℕ, zero, suc, ◌+◌, ◌<◌, ◌≤◌, ⊎_elim, List, [], ◌∷◌, length, refl, arith, ap, sym, ◌∙◌, subst, Option, Some, None}
use Rattle.std.specs.Prelude.{slice_index_or}
use Rattle.std.proofs.lemmas.Option.{same_Some, slice_get_within, slice_get-get_or, get_or_from_slice_get}
use Rattle.sr_model.specs.declared.label.AdjLabel.{AdjLabel}
use Rattle.sr_model.specs.declared.link.Link.{Link}
use Rattle.sr_model.specs.declared.link.TheConstants.{MOST_NODES}
use Rattle.sr_model.specs.declared.name.LinkKey.{LinkKey}
use Rattle.sr_model.specs.Key.{KeyLt}
use Rattle.sr_model.specs.Graph.{Graph, node_count, link_count, link_at, no_link, tail, IsGraph, IsLink, IsNamed, IsGrouped}
use Rattle.sr_model.specs.Case.{key_at}
use Rattle.sr_model.specs.Label.{Labels, label_of, IsGoodAt, IsSrgb}
use Rattle.sr_model.specs.Rule.{node_at, adj_label_at, adj_labels_of, NoDuplicate, NoOutside, NoAdjClash, AreAnnounced, IsAccepted}
use Rattle.sr_laws.proofs.Ranges.{label-cases, label-here}
use Rattle.sr_why.specs.Whole.{whole_range, AreWholeNodes, AreWholeLinks, AreLinkKeys}

pub keys-announced : (g : Graph) (keys : List LinkKey) → IsNamed g → AreLinkKeys g (link_count g) keys → AreAnnounced g keys
keys-announced g keys named are = record {
  ascending = λ i j a b lt ea eb.
      let jl : j < length keys = slice_get_within keys j b eb in
      let jw : j < link_count g = omega (arith, are.long) in
      let iw : i < link_count g = omega arith in
      let ka : key_at g i ≡ a = sym (are.each i iw) ∙ get_or_from_slice_get keys i a no_link.key ea in
      let kb : key_at g j ≡ b = sym (are.each j jw) ∙ get_or_from_slice_get keys j b no_link.key eb in
      subst (λ (k : LinkKey). KeyLt k b) ka (subst (λ (k : LinkKey). KeyLt (key_at g i) k) kb (named.keys i j lt jw));
  holds = λ l within. (l, slice_get-get_or keys l no_link.key (omega (arith, are.long)) ∙ ap Some (are.each l within));
}

whole_good : (count : ℕ) → 0 < count → count ≤ MOST_NODES → (k : ℕ) → k < 1 → IsGoodAt (whole_range count ∷ []) k
whole_good count some few zero lt = record {
  within = record { some = some; above = omega arith; below = omega arith };
  apart = λ j none. absurd (omega arith);
}
whole_good count some few (suc k) lt = absurd (omega arith)

pub srgb-whole : (count : ℕ) → 0 < count → count ≤ MOST_NODES → IsSrgb (whole_range count ∷ [])
srgb-whole count some few = record { some = omega arith; each = whole_good count some few }

-- the labels of the range lie below those of links
range_below : (count i t : ℕ) → label_of (whole_range count ∷ []) i ≡ Some t → t < 16 + count
range_below count i t e =
    ⊎_elim
    (λ (here : (i < count) × (16 + i ≡ t)). omega (arith, here.0, here.1))
    (λ (later : (count ≤ i) × (None ≡ Some t)). let no = later.1 in absurd {0} (cc))
    (label-cases (whole_range count) [] i t e)

-- where each link has a label, they are all in the list, in the order of links
adjs_all : (base : ℕ) (ks : List Link) (adj : List (Option ℕ)) → length adj ≡ length ks → ((l : ℕ) → l < length ks → slice_index_or adj l None ≡ Some (base + l)) → (length (adj_labels_of ks adj) ≡ length ks) × ((k : ℕ) → k < length ks → adj_label_at (adj_labels_of ks adj) k ≡ record { node = (slice_index_or ks k no_link).from.0; label = base + k })
adjs_all base [] adj e each = (refl, λ k lt. absurd (omega arith))
adjs_all base (k ∷ ks) [] e each = absurd (omega (arith, e))
adjs_all base (k ∷ ks) (None ∷ adj) e each = let no : None ≡ Some (base + 0) = each 0 (omega arith) in absurd {0} (cc)
adjs_all base (k ∷ ks) (Some t ∷ adj) e each =
    let first : t ≡ base + 0 = same_Some _ _ (each 0 (omega arith)) in
    let rest = adjs_all (base + 1) ks adj (omega (arith, e)) (λ l lt. each (suc l) (omega arith) ∙ ap Some (omega arith)) in
    (omega (arith, rest.0), at t first rest.1) where
      at : (t : ℕ) → t ≡ base + 0 → ((j : ℕ) → j < length ks → adj_label_at (adj_labels_of ks adj) j ≡ record { node = (slice_index_or ks j no_link).from.0; label = base + 1 + j }) → (j : ℕ) → j < suc (length ks) → adj_label_at (adj_labels_of (k ∷ ks) (Some t ∷ adj)) j ≡ record { node = (slice_index_or (k ∷ ks) j no_link).from.0; label = base + j }
      at t first rest zero lt = ap (λ (n : ℕ). record { node = k.from.0; label = n }) first
      at t first rest (suc j) lt = rest j (omega arith) ∙ ap (λ (n : ℕ). record { node = (slice_index_or ks j no_link).from.0; label = n }) (omega arith)

module _ (g : Graph) (graph : IsGraph g) (nodes : List Labels) (whole : AreWholeNodes (node_count g) (node_count g) nodes) where
  index_is : (v i : ℕ) → v < length nodes → (node_at nodes v).index ≡ Some i → v ≡ i
  index_is v i lt e = same_Some _ _ (sym (ap (λ (n : Labels). n.index) (whole.each v (omega (arith, whole.long)))) ∙ e)

  whole_twice : NoDuplicate nodes
  whole_twice i low high d =
      let same : low ≡ i = index_is low i (omega (arith, d.order, d.within)) d.low_has in
      omega (arith, d.order, index_is high i d.within d.high_has)

  whole_outside : NoOutside nodes
  whole_outside i v o =
      let same : o.announced.0 ≡ i = index_is o.announced.0 i o.announced.1 o.announced.2 in
      let is : (node_at nodes v).srgb ≡ whole_range (node_count g) ∷ [] = ap (λ (n : Labels). n.srgb) (whole.each v (omega (arith, whole.long, o.within))) in
      let none : label_of (whole_range (node_count g) ∷ []) i ≡ None = rw is at o.outside in
      let some : label_of (whole_range (node_count g) ∷ []) i ≡ Some (16 + i) = label-here (whole_range (node_count g)) [] i (omega (arith, o.announced.1, whole.long)) in
      absurd {0} (cc)

  module _ (adj : List (Option ℕ)) (links : AreWholeLinks (node_count g) (link_count g) adj) where
    whole_adjs : (length (adj_labels_of g.links adj) ≡ link_count g) × ((k : ℕ) → k < link_count g → adj_label_at (adj_labels_of g.links adj) k ≡ record { node = tail g k; label = 16 + node_count g + k })
    whole_adjs = adjs_all (16 + node_count g) g.links adj links.long links.each

    adj_is : (k : ℕ) → k < length (adj_labels_of g.links adj) → (k < link_count g) × (adj_label_at (adj_labels_of g.links adj) k ≡ record { node = tail g k; label = 16 + node_count g + k })
    adj_is k lt = let kw : k < link_count g = omega (arith, whole_adjs.0) in (kw, whole_adjs.1 k kw)

    -- the label of a link isn't in the ranges of its node
    adj_apart : (k i : ℕ) → k < link_count g → label_of (node_at nodes (tail g k)).srgb i ≡ Some (16 + node_count g + k) → ⊥
    adj_apart k i kw e =
        let ends : IsLink g (link_at g k) = graph.each k kw in
        let srgb : (node_at nodes (tail g k)).srgb ≡ whole_range (node_count g) ∷ [] = ap (λ (n : Labels). n.srgb) (whole.each (tail g k) ends.0) in
        omega (arith, range_below (node_count g) i (16 + node_count g + k) (rw srgb at e))

    whole_clash : NoAdjClash nodes (adj_labels_of g.links adj)
    whole_clash k c =
        let is = adj_is k c.within in
        let label : (adj_label_at (adj_labels_of g.links adj) k).label ≡ 16 + node_count g + k = ap (λ (a : AdjLabel). a.label) is.1 in
        let node : (adj_label_at (adj_labels_of g.links adj) k).node ≡ tail g k = ap (λ (a : AdjLabel). a.node) is.1 in
        ⊎_elim
        (λ reserved. omega (arith, reserved, label))
        (λ rest. ⊎_elim
        (λ within. adj_apart k within.0 is.0 (rw (node, label) at within.1))
        (λ other.
        let same : (adj_label_at (adj_labels_of g.links adj) other.0).label ≡ 16 + node_count g + other.0 = ap (λ (a : AdjLabel). a.label) (adj_is other.0 other.1).1 in
        other.2 (omega (arith, other.4, same, label)))
        rest)
        c.clash

    pub whole-accepted : IsNamed g → IsGrouped g → (keys : List LinkKey) → AreLinkKeys g (link_count g) keys → (depth : ℕ) → depth ≤ 12 → IsAccepted (record { graph = g; labels = nodes; adj = adj; announced = keys; depth = depth })
    whole-accepted named grouped keys are depth few = record {
      graph = graph;
      named = named;
      grouped = grouped;
      nodes = whole.long;
      links = links.long;
      ranges = λ v lt.
          let vw : v < node_count g = omega (arith, whole.long) in
          subst (λ (n : Labels). IsSrgb n.srgb) (sym (whole.each v vw)) (srgb-whole (node_count g) (omega arith) graph.few_nodes);
      rules = (whole_twice, whole_outside, whole_clash);
      announced = keys-announced g keys named are;
      depth = few;
    }
