use Rattle.std.proofs.Common.{◌≡◌, true, false, arith, ap, ◌∙◌, sym}
use Rattle.sr_lsdb.specs.Tables.{is_down}
use Rattle.sr_account.specs.Steps.{AnnouncementFails}
use Rattle.sr_account.proofs.ReasonLemmas.{absent-not, announced-below, ends-none, ends-some, identity-not, key-asked, none-at-all}
use Rattle.sr_account.proofs.entries.announcement_reason.Goals as goal

pub returns-then-not-is_among : goal.returns-then-not-is_among
returns-then-not-is_among c = record {
  holds = ends-none c.args.facts.now c.args.survey.now c.args.announcement.now c.deref.result.now c.requires c.deref.ensures.value c.if-not-is_among.ensures;
  first = announced-below c.args.facts.now c.args.announcement.now 5
      (λ _ h. absent-not c.args.facts.now c.args.announcement.now c.if-not-is_present.ensures h)
      (λ lt h. absurd (omega arith))
      (λ lt h. absurd (omega arith))
      (λ lt h. absurd (omega arith))
      (λ lt h. absurd (omega arith));
}

pub returns-then-not-holds : goal.returns-then-not-holds
returns-then-not-holds c = record {
  holds = key-asked c.args.facts.now c.args.survey.now c.args.announcement.now c.mirrored.result c.deref-else-not-is_among.result.now false c.requires c.mirrored.ensures c.deref-else-not-is_among.ensures.value c.if-not-holds.ensures;
  first = announced-below c.args.facts.now c.args.announcement.now 6
      (λ _ h. absent-not c.args.facts.now c.args.announcement.now c.if-not-is_present.ensures h)
      (λ _ h. ends-some c.args.facts.now c.args.survey.now c.args.announcement.now c.deref.result.now c.requires c.deref.ensures.value c.if-not-is_among.ensures h)
      (λ lt h. absurd (omega arith))
      (λ lt h. absurd (omega arith))
      (λ lt h. absurd (omega arith));
}

pub returns-then-effective_metric-eq-MAXIMUM_METRIC : goal.returns-then-effective_metric-eq-MAXIMUM_METRIC
returns-then-effective_metric-eq-MAXIMUM_METRIC c = record {
  holds = sym c.effective_metric.ensures ∙ c.if-effective_metric-eq-MAXIMUM_METRIC.true;
  first = announced-below c.args.facts.now c.args.announcement.now 7
      (λ _ h. absent-not c.args.facts.now c.args.announcement.now c.if-not-is_present.ensures h)
      (λ _ h. ends-some c.args.facts.now c.args.survey.now c.args.announcement.now c.deref.result.now c.requires c.deref.ensures.value c.if-not-is_among.ensures h)
      (λ _ h. identity-not c.args.facts.now c.args.survey.now c.args.announcement.now c.mirrored.result c.deref-else-not-is_among.result.now c.requires c.mirrored.ensures c.deref-else-not-is_among.ensures.value c.if-not-holds.ensures h)
      (λ lt h. absurd (omega arith))
      (λ lt h. absurd (omega arith));
}

pub returns-then-contains : goal.returns-then-contains
returns-then-contains c = record {
  holds = ap (is_down c.args.facts.now.downs) (sym c.pair.ensures) ∙ sym c.if-contains.ensures;
  first = announced-below c.args.facts.now c.args.announcement.now 8
      (λ _ h. absent-not c.args.facts.now c.args.announcement.now c.if-not-is_present.ensures h)
      (λ _ h. ends-some c.args.facts.now c.args.survey.now c.args.announcement.now c.deref.result.now c.requires c.deref.ensures.value c.if-not-is_among.ensures h)
      (λ _ h. identity-not c.args.facts.now c.args.survey.now c.args.announcement.now c.mirrored.result c.deref-else-not-is_among.result.now c.requires c.mirrored.ensures c.deref-else-not-is_among.ensures.value c.if-not-holds.ensures h)
      (λ _ h. c.if-effective_metric-eq-MAXIMUM_METRIC.false (c.effective_metric.ensures ∙ h))
      (λ lt h. absurd (omega arith));
}

pub returns-else-contains : goal.returns-else-contains
returns-else-contains c = none-at-all (AnnouncementFails c.args.facts.now c.args.announcement.now) (announced-below c.args.facts.now c.args.announcement.now 23
    (λ _ h. absent-not c.args.facts.now c.args.announcement.now c.if-not-is_present.ensures h)
    (λ _ h. ends-some c.args.facts.now c.args.survey.now c.args.announcement.now c.deref.result.now c.requires c.deref.ensures.value c.if-not-is_among.ensures h)
    (λ _ h. identity-not c.args.facts.now c.args.survey.now c.args.announcement.now c.mirrored.result c.deref-else-not-is_among.result.now c.requires c.mirrored.ensures c.deref-else-not-is_among.ensures.value c.if-not-holds.ensures h)
    (λ _ h. c.if-effective_metric-eq-MAXIMUM_METRIC.false (c.effective_metric.ensures ∙ h))
    (λ _ h. let bad : false ≡ true = c.if-contains.ensures ∙ ap (is_down c.args.facts.now.downs) c.pair.ensures ∙ h in cc))
