use Rattle.std.proofs.Common.{[], List, ℕ, refl, sym, subst, ◌∙◌}
use Rattle.sr_engine.specs.Written.{written, Puts}
use Rattle.sr_engine.proofs.Answering.{says-nothing}
use Rattle.sr_run.specs.State.{Session, CanReport}
use Rattle.sr_run.specs.Handlers.{PutsJoined}
use Rattle.sr_run.proofs.SessionLemmas.{ends-resting, ends-told}
use Rattle.sr_run.proofs.background.ScriptSession.finish.Goals as goal

pub returns-then-not-works : goal.returns-then-not-works
returns-then-not-works g c = record {
  said = [];
  says = says-nothing _;
  is = (refl, ends-resting c.args.self.now (subst (λ (s : Session). CanReport s.work) c.self.view_is c.self.invariant.reports) (sym c.works.ensures ∙ c.if-not-works.true));
}

pub returns-in-Ok : goal.returns-in-Ok
returns-in-Ok g c =
    ends-told c.args.self.now c.join.new.self c.join.new.out.items (written (g.K.Sink.held c.args.sink.now) (g.K.Sink.faults c.args.sink.now) c.args.out.now) (written (g.K.Sink.held c.put.new.sink) (g.K.Sink.faults c.put.new.sink) c.put.new.self) c.put.result c.accepted.result
    (sym c.works.ensures ∙ c.if-not-works.false)
    (subst (λ (t : List ℕ). PutsJoined c.args.self.now c.join.new.self t c.join.new.out.items) c.new-text.ensures.items c.in-Ok.ensures)
    (subst (λ (t : List ℕ). Puts (written (g.K.Sink.held c.args.sink.now) (g.K.Sink.faults c.args.sink.now) c.args.out.now) (written (g.K.Sink.held c.put.new.sink) (g.K.Sink.faults c.put.new.sink) c.put.new.self) t c.put.result) c.deref.ensures.value c.put.ensures.puts)
    c.accepted.ensures
