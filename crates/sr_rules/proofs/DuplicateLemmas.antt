-- An index of two nodes, in lists of nodes that announce the same indices.
use Rattle.std.proofs.Common.{◌≡◌, ℕ, ◌+◌, ◌<◌, List, [], ◌∷◌, ◌++◌, map, length, get_or, take, refl, arith, ap, sym, ◌∙◌, subst, Some, None}
use Rattle.std.specs.Prelude.{slice_get}
use Rattle.std.proofs.lemmas.List.{map_more, map_push, length-map}
use Rattle.std.proofs.lemmas.Option.{slice_get-get_or}
use Rattle.sr_model.specs.declared.rule.DomainRule.TheVariants.{DuplicateIndex}
use Rattle.sr_model.specs.Label.{Labels}
use Rattle.sr_model.specs.Rule.{IsDuplicate, IsLeastDuplicate, NoDuplicate}
use Rattle.sr_lsdb.specs.declared.facts.Facts.{Facts}
use Rattle.sr_domain.specs.Nodes.{labels_of, nodes_of, all_labels}
use Rattle.sr_domain.specs.Rules.{IsNodeAt}
use Rattle.sr_rules.specs.Broken.{IsFinding}
use Rattle.sr_rules.specs.Indices.{HaveSameIndices, index_in}
use Rattle.sr_rules.proofs.BrokenLemmas.{verdict-none}
use Rattle.sr_rules.proofs.NodesLemmas.{same-index, same-length}

-- one more node stands for itself
pub indices-more : (facts : Facts) (nodes : List ℕ) (i node : ℕ) (one : Labels) (out out' : List Labels) → i < length nodes → node ≡ get_or nodes i node → HaveSameIndices out (map (labels_of facts) (take i nodes)) → one.index ≡ (labels_of facts node).index → out' ≡ out ++ one ∷ [] → HaveSameIndices out' (map (labels_of facts) (take (i + 1) nodes))
indices-more facts nodes i node one out out' within is before here pushed =
    ap (map index_in) pushed ∙ map_push index_in out one
    ∙ ap (λ l. l ++ one.index ∷ []) before
    ∙ ap (λ x. map index_in (map (labels_of facts) (take i nodes)) ++ x ∷ []) (here ∙ ap (λ v. (labels_of facts v).index) is)
    ∙ sym (map_push index_in (map (labels_of facts) (take i nodes)) (labels_of facts (get_or nodes i node)))
    ∙ ap (map index_in) (sym (map_more (labels_of facts) nodes i node within))

module _ (nodes others : List Labels) (same : HaveSameIndices nodes others) where
  pub duplicate-moved : (i low high : ℕ) → IsDuplicate nodes i low high → IsDuplicate others i low high
  duplicate-moved i low high d = record {
    order = d.order;
    within = let w : high < length nodes = d.within in omega (arith, same-length nodes others same);
    low_has = sym (same-index nodes others same low) ∙ d.low_has;
    high_has = sym (same-index nodes others same high) ∙ d.high_has;
  }

least-moved : (nodes others : List Labels) (i low high : ℕ) → HaveSameIndices nodes others → IsLeastDuplicate nodes i low high → IsLeastDuplicate others i low high
least-moved nodes others i low high same least = record {
  duplicate = duplicate-moved nodes others same i low high least.duplicate;
  least = λ j a b d. least.least j a b (duplicate-moved others nodes (sym same) j a b d);
}

module _ (facts : Facts) (nodes : List ℕ) (labels : List Labels) (are : nodes ≡ nodes_of facts) (same : HaveSameIndices labels (map (labels_of facts) nodes)) where
  here : HaveSameIndices labels (all_labels facts)
  here = same ∙ ap (λ (l : List ℕ). map index_in (map (labels_of facts) l)) are

  pub duplicate-none : NoDuplicate labels → IsFinding facts 2 None
  duplicate-none none = verdict-none facts 2 (DuplicateIndex 0 0 0) refl (λ i low high d. none i low high (duplicate-moved (all_labels facts) labels (sym here) i low high d))

  many : length labels ≡ length nodes
  many = same-length labels (map (labels_of facts) nodes) same ∙ length-map nodes (labels_of facts)

  pub high-within : (i low high : ℕ) → IsLeastDuplicate labels i low high → high < length nodes
  high-within i low high least = let w : high < length labels = least.duplicate.within in omega (arith, many)

  pub low-within : (i low high : ℕ) → IsLeastDuplicate labels i low high → low < length nodes
  low-within i low high least = let w : high < length labels = least.duplicate.within in let o : low < high = least.duplicate.order in omega (arith, many)

  at : (place node : ℕ) → place < length nodes → node ≡ get_or nodes place node → IsNodeAt facts place node
  at place node within is = subst (λ (l : List ℕ). slice_get l place ≡ Some node) are (slice_get-get_or nodes place node within ∙ ap Some (sym is))

  pub duplicate-some : (i low high a b : ℕ) → IsLeastDuplicate labels i low high → a ≡ get_or nodes low a → b ≡ get_or nodes high b → IsFinding facts 2 (Some (DuplicateIndex i a b))
  duplicate-some i low high a b least low_is high_is = (
    record {
      low_place = low;
      high_place = high;
      least = least-moved labels (all_labels facts) i low high here least;
      low_is = at low a (low-within i low high least) low_is;
      high_is = at high b (high-within i low high least) high_is;
    },
    refl,
  )
