use Rattle.std.proofs.Common.{subst, sym, IfSome}
use Rattle.sr_lsdb.specs.declared.facts.Facts.{Facts}
use Rattle.sr_domain.specs.Net.{IsNetOf}
use Rattle.sr_repair.specs.Version.{NumberedNet}
use Rattle.sr_run.specs.State.{State}
use Rattle.sr_run.specs.Session.{TellsOf}
use Rattle.sr_run.specs.Asked.{TellsQuestion}
use Rattle.sr_run.proofs.HandlerLemmas.{carries-weaker}
use Rattle.sr_run.proofs.QuestionLemmas.{question-told}
use Rattle.sr_run.proofs.session.DomainSession.ask_last.Goals as goal

pub ask-requires-clause-net : goal.ask-requires-clause-net
ask-requires-clause-net g c = λ lifetimes bounds.
    subst (λ (f : Facts). IfSome c.self.inside.current (λ (v : NumberedNet). IsNetOf f v.net)) (sym c.accepted.ensures.facts) c.self.invariant.fresh

pub returns : goal.returns
returns g c =
    carries-weaker (TellsOf (TellsQuestion c.args.question c.accepted.result.now c.self.inside.previous) c.self.inside.current) _ _ _ _
    (λ told is. question-told c.args.question c.args.self.now told c.requires.question
    (subst (λ (s : State). TellsOf (TellsQuestion c.args.question s.editing.accepted s.previous) s.current told) c.self.view_is
    (subst (λ (f : Facts). TellsOf (TellsQuestion c.args.question f c.self.inside.previous) c.self.inside.current told) c.accepted.ensures.facts is)))
    c.ask.ensures
