use Rattle.std.proofs.Common.{[], subst, sym, Ok, Err}
use Rattle.sr_engine.specs.Written.{written, Puts}
use Rattle.sr_run.specs.declared.stop.Stop.TheVariants.{Refused}
use Rattle.sr_run.specs.declared.tries.Tried.TheVariants.{Text as TriedText, Audit as TriedAudit, Asides as TriedAsides}
use Rattle.sr_account.specs.Asides.{IsAsideCount}
use Rattle.sr_run.specs.Tries.{Tries}
use Rattle.sr_lsdb.specs.declared.facts.Facts.{Facts}
use Rattle.sr_run.specs.Handlers.{TriedAs, WritesAsides}
use Rattle.sr_run.proofs.SessionLemmas.{session}
use Rattle.sr_run.proofs.TryLemmas.{asides-tried, audit-tried, puts-tried, tried-told}
use Rattle.sr_run.proofs.AsideLemmas.{awaits-count}
use Rattle.sr_run.proofs.WritingLemmas.{gives-asides, gives-at, gives-told, gives-tried, gives-refusal, gives-nothing}
use Rattle.sr_run.proofs.background.ScriptSession.try_out.Goals as goal
use Rattle.sr_run.proofs.background.ScriptSession.try_out.Goals.{in-Ok-Text, in-Ok-Audit+in-Some-1, in-Ok-Audit+in-None-1, in-Ok-Asides, in-Err-Refused, in-Err-Memory}

pub put_account-requires : goal.put_account-requires
put_account-requires g c =
    let is : TriedAs c.args.question c.self.inside.domain c.self.inside.steps c.try_question-tried.new.steps c.clear.new.self.items c.try_question-tried.new.out.items (Ok (TriedAsides c.in-Ok-Asides.count)) = rw c.in-Ok-Asides.field-0-is at c.in-Ok-Asides.ensures in
    subst (λ (f : Facts). IsAsideCount f c.in-Ok-Asides.count) (sym c.tentative_facts.ensures) (awaits-count c.self.inside.domain.editing.tentative is.1 c.in-Ok-Asides.count is.3)

pub returns : goal.returns
returns g c =
    elim c.match-tried.branch [
      | in-Ok-Text w ↦
          let is : TriedAs c.args.question c.self.inside.domain c.self.inside.steps c.try_question-tried.new.steps [] c.try_question-tried.new.out.items (Ok TriedText) = rw (w.in-Ok-Text.field-0-is, c.clear.ensures.items) at w.in-Ok-Text.ensures in
          gives-at (Tries c.args.question) c.args.number c.args.self.now (session c.self.inside.domain c.self.inside.work c.self.inside.usage c.try_question-tried.new.steps) _ (written (g.K.Sink.held w.put.new.sink) (g.K.Sink.faults w.put.new.sink) w.put.new.self) _ _ _ (cc (w.sink-is, w.out-is)) w.result-is
          (gives-told (Tries c.args.question) c.args.number c.args.self.now (session c.self.inside.domain c.self.inside.work c.self.inside.usage c.try_question-tried.new.steps) _ _ c.try_question-tried.new.out.items w.put.result w.accepted.result
          (puts-tried c.args.question c.args.self.now c.self.inside.domain c.self.inside.work c.self.inside.usage c.self.inside.steps c.try_question-tried.new.steps c.self.view_is c.self.invariant.reports _ _ is)
          (subst (λ t. Puts (written (g.K.Sink.held c.args.sink.now) (g.K.Sink.faults c.args.sink.now) c.args.out.now) (written (g.K.Sink.held w.put.new.sink) (g.K.Sink.faults w.put.new.sink) w.put.new.self) t w.put.result) w.deref.ensures.value w.put.ensures.puts)
          w.accepted.ensures)
      | in-Ok-Audit+in-Some-1 w ↦
          let is : TriedAs c.args.question c.self.inside.domain c.self.inside.steps c.try_question-tried.new.steps c.clear.new.self.items c.try_question-tried.new.out.items (Ok (TriedAudit w.in-Ok-Audit.version)) = rw w.in-Ok-Audit.field-0-is at w.in-Ok-Audit.ensures in
          gives-at (Tries c.args.question) c.args.number c.args.self.now (session c.self.inside.domain c.self.inside.work c.self.inside.usage c.try_question-tried.new.steps) _ (written (g.K.Sink.held w.put_audit.new.sink) (g.K.Sink.faults w.put_audit.new.sink) w.put_audit.new.out) _ _ _ (cc (w.sink-is, w.out-is)) w.result-is
          (gives-tried c.args.question c.args.number c.args.self.now (session c.self.inside.domain c.self.inside.work c.self.inside.usage c.try_question-tried.new.steps) w.in-Ok-Audit.version _ _ w.put_audit.result w.accepted-in-Ok-Audit.result
          (audit-tried c.args.question c.args.self.now c.self.inside.domain c.self.inside.work c.self.inside.usage c.self.inside.steps c.try_question-tried.new.steps c.self.view_is c.self.invariant.reports w.in-Ok-Audit.version is.0 is.1) w.put_audit.ensures w.accepted-in-Ok-Audit.ensures)
      | in-Ok-Audit+in-None-1 w ↦
          let is : TriedAs c.args.question c.self.inside.domain c.self.inside.steps c.try_question-tried.new.steps c.clear.new.self.items c.try_question-tried.new.out.items (Ok (TriedAudit w.in-Ok-Audit.version)) = rw w.in-Ok-Audit.field-0-is at w.in-Ok-Audit.ensures in
          gives-at (Tries c.args.question) c.args.number c.args.self.now (session c.self.inside.domain c.self.inside.work c.self.inside.usage c.try_question-tried.new.steps) _ (written (g.K.Sink.held w.put_audit.new.sink) (g.K.Sink.faults w.put_audit.new.sink) w.put_audit.new.out) _ _ _ (cc (w.sink-is, w.out-is)) w.result-is
          (gives-tried c.args.question c.args.number c.args.self.now (session c.self.inside.domain c.self.inside.work c.self.inside.usage c.try_question-tried.new.steps) w.in-Ok-Audit.version _ _ w.put_audit.result w.accepted-in-Ok-Audit.result
          (audit-tried c.args.question c.args.self.now c.self.inside.domain c.self.inside.work c.self.inside.usage c.self.inside.steps c.try_question-tried.new.steps c.self.view_is c.self.invariant.reports w.in-Ok-Audit.version is.0 is.1) w.put_audit.ensures w.accepted-in-Ok-Audit.ensures)
      | in-Ok-Asides w ↦
          let is : TriedAs c.args.question c.self.inside.domain c.self.inside.steps c.try_question-tried.new.steps c.clear.new.self.items c.try_question-tried.new.out.items (Ok (TriedAsides w.in-Ok-Asides.count)) = rw w.in-Ok-Asides.field-0-is at w.in-Ok-Asides.ensures in
          gives-at (Tries c.args.question) c.args.number c.args.self.now (session c.self.inside.domain c.self.inside.work c.self.inside.usage c.try_question-tried.new.steps) _ (written (g.K.Sink.held w.put_account.new.sink) (g.K.Sink.faults w.put_account.new.sink) w.put_account.new.out) _ _ _ (cc (w.sink-is, w.out-is)) w.result-is
          (gives-asides (Tries c.args.question) c.args.number c.args.self.now (session c.self.inside.domain c.self.inside.work c.self.inside.usage c.try_question-tried.new.steps) c.self.inside.domain.editing.tentative is.1 w.in-Ok-Asides.count _ _ w.put_account.result w.accepted-in-Ok-Asides.result
          (asides-tried c.args.question c.args.self.now c.self.inside.domain c.self.inside.work c.self.inside.usage c.self.inside.steps c.try_question-tried.new.steps c.self.view_is c.self.invariant.reports is.1 is.0 is.2) is.3
          (subst (λ (f : Facts). WritesAsides f (written (g.K.Sink.held c.args.sink.now) (g.K.Sink.faults c.args.sink.now) c.args.out.now) (written (g.K.Sink.held w.put_account.new.sink) (g.K.Sink.faults w.put_account.new.sink) w.put_account.new.out) w.put_account.result) w.tentative_facts.ensures w.put_account.ensures)
          w.accepted-in-Ok-Asides.ensures)
      | in-Err-Refused w ↦
          let is : TriedAs c.args.question c.self.inside.domain c.self.inside.steps c.try_question-tried.new.steps c.clear.new.self.items c.try_question-tried.new.out.items (Err (Refused w.in-Err-Refused.reason)) = rw w.in-Err-Refused.field-0-is at w.in-Err-Refused.ensures in
          gives-at (Tries c.args.question) c.args.number c.args.self.now (session c.self.inside.domain c.self.inside.work c.self.inside.usage c.try_question-tried.new.steps) _ (written (g.K.Sink.held w.write_refusal.new.sink) (g.K.Sink.faults w.write_refusal.new.sink) w.write_refusal.new.out) _ _ _ (cc (w.sink-is, w.out-is)) w.result-is
          (gives-refusal (Tries c.args.question) c.args.number c.args.self.now (session c.self.inside.domain c.self.inside.work c.self.inside.usage c.try_question-tried.new.steps) _ _ w.in-Err-Refused.reason w.write_refusal.result
          (tried-told c.args.question c.args.self.now c.self.inside.domain c.self.inside.work c.self.inside.usage c.self.inside.steps c.try_question-tried.new.steps c.self.view_is c.self.invariant.reports _ is) w.write_refusal.ensures)
      | in-Err-Memory w ↦
          gives-at (Tries c.args.question) c.args.number c.args.self.now (session c.self.inside.domain c.self.inside.work c.self.inside.usage c.try_question-tried.new.steps) _ _ _ _ _ (cc (w.sink-is, w.out-is)) w.result-is
          (gives-nothing (Tries c.args.question) c.args.number c.args.self.now (session c.self.inside.domain c.self.inside.work c.self.inside.usage c.try_question-tried.new.steps) (written (g.K.Sink.held c.args.sink.now) (g.K.Sink.faults c.args.sink.now) c.args.out.now) w.in-Err-Memory.error)
    ]
