use Rattle.std.proofs.Common.{◌≡◌, inl, inr, true, false, sym, ◌∙◌}
use Rattle.sr_account.specs.Steps.{at_part}
use Rattle.sr_account.proofs.CapabilityLemmas.{capability-chosen, capability-other}
use Rattle.sr_account.proofs.capabilities.capability_reason.Goals as goal
use Rattle.sr_account.proofs.capabilities.capability_reason.Goals.{then-is_chosen, else-is_chosen, else-not-ranges-via-then-not-ranges+else-not-imposition, else-not-ranges-via-else-not-ranges}

pub returns-then-is_chosen-2 : goal.returns-then-is_chosen-2
returns-then-is_chosen-2 c = λ facts own. capability-chosen facts c.args.choice.now (at_part c.args.id.now c.args.at) c.args.capability.now own
    (elim c.if-is_chosen.branch [
      | then-is_chosen w ↦ inl (c.is_chosen.ensures.0 w.if-is_chosen.true)
      | else-is_chosen w ↦ inr (w.is_chosen-else-is_chosen.ensures.0 (sym w.value-is ∙ c.if-is_chosen-2.true))
    ])

pub returns-else-is_chosen-2 : goal.returns-else-is_chosen-2
returns-else-is_chosen-2 c = λ facts own. capability-other facts c.args.choice.now (at_part c.args.id.now c.args.at) c.args.capability.now own
    (elim c.if-is_chosen.branch [
      | then-is_chosen w ↦ (λ _. let bad : true ≡ false = sym w.if-is_chosen.true ∙ sym w.value-is ∙ c.if-is_chosen-2.false in cc)
      | else-is_chosen w ↦ (λ e. let bad : true ≡ false = sym (c.is_chosen.ensures.1 e) ∙ w.if-is_chosen.false in cc)
    ])
    (elim c.if-is_chosen.branch [
      | then-is_chosen w ↦ (λ _. let bad : true ≡ false = sym w.if-is_chosen.true ∙ sym w.value-is ∙ c.if-is_chosen-2.false in cc)
      | else-is_chosen w ↦ (λ e. let bad : true ≡ false = sym (w.is_chosen-else-is_chosen.ensures.1 e) ∙ sym w.value-is ∙ c.if-is_chosen-2.false in cc)
    ])
    (elim c.else-not-ranges.branch [
      | else-not-ranges-via-then-not-ranges+else-not-imposition w ↦ inr (sym c.tells-imposition.ensures ∙ w.if-not-imposition.false)
      | else-not-ranges-via-else-not-ranges w ↦ inl (sym c.tells-ranges.ensures ∙ w.if-not-ranges.false)
    ])
