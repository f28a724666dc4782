-- Nodes that announce the same label ranges, or the same indices.
use Rattle.std.proofs.Common.{◌≡◌, ℕ, List, [], ◌∷◌, map, length, get_or, refl, ap, sym, ◌∙◌, None}
use Rattle.std.proofs.Math.ListN.{get_or-map}
use Rattle.std.proofs.lemmas.List.{length-map}
use Rattle.sr_model.specs.declared.label.Range.{Range}
use Rattle.sr_model.specs.Label.{Labels, nameless}
use Rattle.sr_model.specs.Rule.{node_at}
use Rattle.sr_lsdb.specs.declared.facts.Facts.{Facts}
use Rattle.sr_domain.specs.Nodes.{labels_of, ranges_of}
use Rattle.sr_rules.specs.RuleSurvey.{nodes_with}
use Rattle.sr_rules.specs.Indices.{HaveSameIndices, index_in}

-- the label ranges that a node announces
abbrev ranges_in : Labels → List Range
ranges_in labels = labels.srgb

-- the nodes announce the same label ranges
abbrev pub HaveSameRanges : List Labels → List Labels → Type 0
HaveSameRanges nodes others = (v : ℕ) → (node_at nodes v).srgb ≡ (node_at others v).srgb

ranges-with : (ranges : List (List Range)) → map ranges_in (nodes_with ranges) ≡ ranges
ranges-with [] = refl
ranges-with (r ∷ rs) = ap (λ (l : List (List Range)). r ∷ l) (ranges-with rs)

ranges-labels : (facts : Facts) (nodes : List ℕ) → map ranges_in (map (labels_of facts) nodes) ≡ map (ranges_of facts) nodes
ranges-labels facts [] = refl
ranges-labels facts (v ∷ vs) = ap (λ (l : List (List Range)). ranges_of facts v ∷ l) (ranges-labels facts vs)

ranges-at : (nodes : List Labels) (v : ℕ) → (node_at nodes v).srgb ≡ get_or (map ranges_in nodes) v []
ranges-at nodes v = sym (get_or-map ranges_in nodes v nameless)

pub ranges-with_at : (ranges : List (List Range)) (v : ℕ) → (node_at (nodes_with ranges) v).srgb ≡ get_or ranges v []
ranges-with_at ranges v = ranges-at (nodes_with ranges) v ∙ ap (λ l. get_or l v []) (ranges-with ranges)

pub same-ranges : (facts : Facts) (nodes : List ℕ) (ranges : List (List Range)) → ranges ≡ map (ranges_of facts) nodes → HaveSameRanges (nodes_with ranges) (map (labels_of facts) nodes)
same-ranges facts nodes ranges are v =
    ranges-with_at ranges v ∙ ap (λ l. get_or l v []) (are ∙ sym (ranges-labels facts nodes)) ∙ sym (ranges-at (map (labels_of facts) nodes) v)

pub same-index : (nodes others : List Labels) → HaveSameIndices nodes others → (v : ℕ) → (node_at nodes v).index ≡ (node_at others v).index
same-index nodes others same v = sym (get_or-map index_in nodes v nameless) ∙ ap (λ l. get_or l v None) same ∙ get_or-map index_in others v nameless

pub same-length : (nodes others : List Labels) → HaveSameIndices nodes others → length nodes ≡ length others
same-length nodes others same = sym (length-map nodes index_in) ∙ ap length same ∙ length-map others index_in
