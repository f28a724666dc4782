-- Adjacency labels that break their rule, in lists of nodes that announce the same label ranges.
use Rattle.std.proofs.Common.{◌≡◌, ℕ, ◌<◌, ◌≤◌, ⊎_elim, inl, inr, Bool, List, length, get_or, refl, arith, ap, sym, ◌∙◌, subst, Some, None}
use Rattle.std.specs.Prelude.{slice_get, IsTrue, ◌↔◌}
use Rattle.std.proofs.lemmas.Option.{slice_get-get_or}
use Rattle.sr_model.specs.declared.label.AdjLabel.{AdjLabel}
use Rattle.sr_model.specs.declared.label.Range.{Range}
use Rattle.sr_model.specs.declared.rule.DomainRule.TheVariants.{AdjLabelClash}
use Rattle.sr_model.specs.Label.{Labels, label_of}
use Rattle.sr_laws.specs.Labels.{IsInRanges}
use Rattle.sr_laws.proofs.Ranges.{index-in_ranges, in_ranges-from_label}
use Rattle.sr_labels.specs.Adjacencies.{IsTakenLabel}
use Rattle.sr_model.specs.Rule.{node_at, IsClashAt, IsLeastClash, NoAdjClash}
use Rattle.sr_labels.proofs.Clashes.{found-moved}
use Rattle.sr_lsdb.specs.declared.facts.Facts.{Facts}
use Rattle.sr_domain.specs.Nodes.{nodes_of, all_labels}
use Rattle.sr_domain.specs.Links.{found_adj_labels}
use Rattle.sr_rules.specs.declared.survey.RuleSurvey.{RuleSurvey}
use Rattle.sr_rules.specs.Broken.{IsFinding}
use Rattle.sr_rules.specs.RuleSurvey.{AreSurveyed, nodes_with}
use Rattle.sr_rules.proofs.BrokenLemmas.{verdict-none}
use Rattle.sr_rules.proofs.NodesLemmas.{HaveSameRanges, same-ranges}

-- a label that isn't reserved is taken where it lies in the ranges of its node
pub taken-in : (nodes : List Labels) (this : AdjLabel) (rs : List Range) (in_ranges : Bool) → 16 ≤ this.label → rs ≡ (node_at nodes this.node).srgb → (IsTrue in_ranges ↔ IsInRanges rs this.label) → IsTrue in_ranges ↔ IsTakenLabel nodes this
taken-in nodes this rs in_ranges free are iff = (
  λ yes. inr (subst (λ (r : List Range). (i : ℕ) × (label_of r i ≡ Some this.label)) are (index-in_ranges rs this.label (iff.0 yes))),
  λ taken. ⊎_elim
      (λ low. absurd (omega arith))
      (λ own. iff.1 (in_ranges-from_label rs own.0 this.label (ap (λ r. label_of r own.0) are ∙ own.1)))
      taken,
)

clash-carried : (nodes others : List Labels) (adj : List AdjLabel) (k : ℕ) → HaveSameRanges nodes others → IsClashAt nodes adj k → IsClashAt others adj k
clash-carried nodes others adj k same c = record {
  within = c.within;
  clash = ⊎_elim
      (λ low. inl low)
      (λ rest. ⊎_elim (λ own. inr (inl (own.0, ap (λ r. label_of r own.0) (sym (same _)) ∙ own.1))) (λ other. inr (inr other)) rest)
      c.clash;
}

least-carried : (nodes others : List Labels) (adj : List AdjLabel) (a : AdjLabel) → HaveSameRanges nodes others → IsLeastClash nodes adj a → IsLeastClash others adj a
least-carried nodes others adj a same h = record {
  clash = (h.clash.0, clash-carried nodes others adj h.clash.0 same h.clash.1, h.clash.2);
  least = λ k c. h.least k (clash-carried others nodes adj k (λ v. sym (same v)) c);
}

module _ (facts : Facts) (survey : RuleSurvey) (s : AreSurveyed facts survey) where
  same : HaveSameRanges (nodes_with survey.ranges.items) (all_labels facts)
  same = same-ranges facts (nodes_of facts) survey.ranges.items s.ranges

  pub clash-none : NoAdjClash (nodes_with survey.ranges.items) survey.adj.items → IsFinding facts 4 None
  clash-none none = verdict-none facts 4 (AdjLabelClash 0 0) refl
      (found-moved (all_labels facts) (found_adj_labels facts) survey.adj.items None s.labels (λ k c. none k (clash-carried (all_labels facts) (nodes_with survey.ranges.items) survey.adj.items k (λ v. sym (same v)) c)))

  pub clash-within : (a : AdjLabel) → IsLeastClash (nodes_with survey.ranges.items) survey.adj.items a → a.node < length survey.nodes.items
  clash-within a h = subst (λ (x : AdjLabel). x.node < length survey.nodes.items) h.clash.2 (s.within h.clash.0 h.clash.1.within)

  pub clash-some : (label place node : ℕ) → IsLeastClash (nodes_with survey.ranges.items) survey.adj.items (record { node = place; label = label }) → node ≡ get_or survey.nodes.items place node → IsFinding facts 4 (Some (AdjLabelClash label node))
  clash-some label place node h is =
      let a : AdjLabel = record { node = place; label = label } in (
        record {
          place = place;
          least = found-moved (all_labels facts) (found_adj_labels facts) survey.adj.items (Some a) s.labels (least-carried (nodes_with survey.ranges.items) (all_labels facts) survey.adj.items a same h);
          node_is = subst (λ (l : List ℕ). slice_get l place ≡ Some node) s.nodes (slice_get-get_or survey.nodes.items place node (clash-within a h) ∙ ap Some (sym is));
        },
        refl,
      )
