use Rattle.std.proofs.Common.{refl, subst, sym, ◌∙◌}
use Rattle.sr_lsdb.specs.declared.facts.Facts.{Facts}
use Rattle.sr_rules.specs.Broken.{AreBrokenRules}
use Rattle.sr_print.specs.Told.Told.{Check}
use Rattle.sr_run.specs.State.{State}
use Rattle.sr_run.proofs.session.DomainSession.check.Goals as goal

pub returns : goal.returns
returns c =
    let rules = c.in_ok-rules.rules.items in
    record {
      told = Check rules;
      is = λ domain same. (
        domain,
        same,
        (
          (
            rules,
            subst (λ (s : State). AreBrokenRules s.editing.tentative rules) (c.self.view_is ∙ sym same)
                (subst (λ (f : Facts). AreBrokenRules f rules) c.tentative.ensures.facts c.in_ok-rules.ensures),
            refl,
          ),
          refl,
        ),
      );
      accepted = refl;
      appended = λ number. rw c.deref.ensures.value at c.in_ok-put_check.ensures.line;
    }
