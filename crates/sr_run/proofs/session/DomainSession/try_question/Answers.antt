use Rattle.std.proofs.Common.{ap, subst, ◌∙◌}
use Rattle.sr_lsdb.specs.declared.facts.Facts.{Facts}
use Rattle.sr_run.specs.State.{State}
use Rattle.sr_run.specs.Handlers.{AwaitsAsides}
use Rattle.sr_run.proofs.session.DomainSession.try_question.Goals as goal

pub returns-in-Ok-begin_asides : goal.returns-in-Ok-begin_asides
returns-in-Ok-begin_asides g c = (
  c.in-Aside.is,
  c.in-Ok.tried,
  c.in-Ok.ensures,
  subst (λ (f : Facts). AwaitsAsides f c.in-Ok.tried c.in-Ok-begin_asides.count) (c.tentative-facts.ensures.facts ∙ ap (λ (s : State). s.editing.tentative) c.self.view_is) c.in-Ok-begin_asides.ensures,
)
