use Rattle.std.proofs.Common.{arith}
use Rattle.sr_account.specs.Reasons.{RiskFails}
use Rattle.sr_account.proofs.ReasonLemmas.{names-none, names-some, none-at-all, risk-below, risk-groups, used-none, used-some}
use Rattle.sr_account.proofs.risks.risk_reason.Goals as goal

pub returns-then-not-is_among : goal.returns-then-not-is_among
returns-then-not-is_among c = λ facts s. record {
  holds = names-none facts c.args.survey.now c.args.node c.args.risk.now c.deref.result.now s c.deref.ensures.value c.if-not-is_among.ensures;
  first = risk-below facts c.args.node c.args.risk.now 20
      (λ _ h. h c.if-risk-ne0.false)
      (λ _ h. risk-groups c.args.risk.now.groups c.as_slice.result.now c.as_slice.ensures c.if-is_empty.ensures h)
      (λ lt h. absurd (omega arith))
      (λ lt h. absurd (omega arith));
}

pub returns-then-not-is_among-2 : goal.returns-then-not-is_among-2
returns-then-not-is_among-2 c = λ facts s. record {
  holds = used-none facts c.args.survey.now c.args.node c.args.risk.now c.deref-else-not-is_among.result.now s c.deref-else-not-is_among.ensures.value c.if-not-is_among-2.ensures;
  first = risk-below facts c.args.node c.args.risk.now 21
      (λ _ h. h c.if-risk-ne0.false)
      (λ _ h. risk-groups c.args.risk.now.groups c.as_slice.result.now c.as_slice.ensures c.if-is_empty.ensures h)
      (λ _ h. names-some facts c.args.survey.now c.args.node c.args.risk.now c.deref.result.now s c.deref.ensures.value c.if-not-is_among.ensures h)
      (λ lt h. absurd (omega arith));
}

pub returns-else-not-is_among-2 : goal.returns-else-not-is_among-2
returns-else-not-is_among-2 c = λ facts s. none-at-all (RiskFails facts c.args.node c.args.risk.now) (risk-below facts c.args.node c.args.risk.now 23
    (λ _ h. h c.if-risk-ne0.false)
    (λ _ h. risk-groups c.args.risk.now.groups c.as_slice.result.now c.as_slice.ensures c.if-is_empty.ensures h)
    (λ _ h. names-some facts c.args.survey.now c.args.node c.args.risk.now c.deref.result.now s c.deref.ensures.value c.if-not-is_among.ensures h)
    (λ _ h. used-some facts c.args.survey.now c.args.node c.args.risk.now c.deref-else-not-is_among.result.now s c.deref-else-not-is_among.ensures.value c.if-not-is_among-2.ensures h))
