-- The rules on the SRGB of each node, one node after the other.
use Rattle.std.proofs.Common.{◌≡◌, ℕ, ◌+◌, ◌<◌, ◌≤◌, List, length, get_or, refl, sym, ◌∙◌, subst, Some, None}
use Rattle.std.specs.List.Sorted.{IsStrictlyIncreasing}
use Rattle.std.proofs.lemmas.Option.{same_Some}
use Rattle.sr_model.specs.declared.label.Range.{Range}
use Rattle.sr_model.specs.declared.rule.DomainRule.TheVariants.{NoSrgb, SrgbBad as BadSrgb}
use Rattle.sr_model.specs.Label.{IsSrgb}
use Rattle.sr_labels.specs.declared.srgb.SrgbBad.{SrgbBad}
use Rattle.sr_labels.specs.Ranges.{IsSrgbRefusal}
use Rattle.sr_lsdb.specs.declared.facts.Facts.{Facts}
use Rattle.sr_domain.specs.Nodes.{nodes_of, srgb_of}
use Rattle.sr_domain.specs.Rules.{LacksSrgb, HasBadSrgb, HoldsNowhere, IsLeastNode}
use Rattle.sr_domain.proofs.LeastLemmas.{NoneBelow, none-more, none-all, least-at}
use Rattle.sr_domain.proofs.LabelsLemmas.{not-srgb}
use Rattle.sr_rules.specs.Broken.{IsFinding}
use Rattle.sr_rules.proofs.BrokenLemmas.{verdict-none}

module _ (facts : Facts) (nodes : List ℕ) (are : nodes ≡ nodes_of facts) where
  pub all-announce : (count : ℕ) → length nodes ≤ count → NoneBelow nodes (LacksSrgb facts) count → IsFinding facts 0 None
  all-announce count all below = verdict-none facts 0 (NoSrgb 0) refl (subst (λ (l : List ℕ). HoldsNowhere l (LacksSrgb facts)) are (none-all nodes (LacksSrgb facts) count all below))

  pub none-bad : (count : ℕ) → length nodes ≤ count → NoneBelow nodes (HasBadSrgb facts) count → IsFinding facts 1 None
  none-bad count all below = verdict-none facts 1 (BadSrgb 0) refl (subst (λ (l : List ℕ). HoldsNowhere l (HasBadSrgb facts)) are (none-all nodes (HasBadSrgb facts) count all below))

  module _ (i node : ℕ) (within : i < length nodes) (is : node ≡ get_or nodes i node) where
    pub announces : (ranges : List Range) → Some ranges ≡ srgb_of facts node → NoneBelow nodes (LacksSrgb facts) i → NoneBelow nodes (LacksSrgb facts) (i + 1)
    announces ranges found below = none-more nodes (LacksSrgb facts) i node within is below (λ lacks. let bad : Some ranges ≡ None = found ∙ lacks in cc)

    pub lacks-first : IsStrictlyIncreasing nodes → None ≡ srgb_of facts node → NoneBelow nodes (LacksSrgb facts) i → IsFinding facts 0 (Some (NoSrgb node))
    lacks-first up lacks below = (subst (λ (l : List ℕ). IsLeastNode l (LacksSrgb facts) node) are (least-at nodes (LacksSrgb facts) i node up within is below (sym lacks)), refl)

    pub none-announced : None ≡ srgb_of facts node → NoneBelow nodes (HasBadSrgb facts) i → NoneBelow nodes (HasBadSrgb facts) (i + 1)
    none-announced lacks below = none-more nodes (HasBadSrgb facts) i node within is below (λ bad. let no : None ≡ Some bad.0 = lacks ∙ bad.1 in cc)

    pub good-announced : (ranges : List Range) → Some ranges ≡ srgb_of facts node → IsSrgb ranges → NoneBelow nodes (HasBadSrgb facts) i → NoneBelow nodes (HasBadSrgb facts) (i + 1)
    good-announced ranges found good below = none-more nodes (HasBadSrgb facts) i node within is below (λ bad. bad.2 (subst (λ (r : List Range). IsSrgb r) (same_Some ranges bad.0 (found ∙ bad.1)) good))

    pub bad-first : (ranges : List Range) (fault : SrgbBad) → IsStrictlyIncreasing nodes → Some ranges ≡ srgb_of facts node → IsSrgbRefusal ranges fault → NoneBelow nodes (HasBadSrgb facts) i → IsFinding facts 1 (Some (BadSrgb node))
    bad-first ranges fault up found refused below = (subst (λ (l : List ℕ). IsLeastNode l (HasBadSrgb facts) node) are (least-at nodes (HasBadSrgb facts) i node up within is below (ranges, sym found, not-srgb ranges fault refused)), refl)
