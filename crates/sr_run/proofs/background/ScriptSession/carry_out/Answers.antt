use Rattle.std.proofs.Common.{[], Option, ap, subst, ◌∙◌, Ok, Err}
use Rattle.sr_engine.specs.Written.{written, Puts}
use Rattle.sr_repair.specs.Version.{NumberedNet}
use Rattle.sr_run.specs.declared.stop.Stop.TheVariants.{Refused}
use Rattle.sr_run.specs.declared.session.Reply.TheVariants.{Text, Audit, Asides}
use Rattle.sr_run.specs.State.{Session}
use Rattle.sr_run.specs.Session.{Tells}
use Rattle.sr_run.specs.Handlers.{SessionReplies, WritesAudit}
use Rattle.sr_run.proofs.AsideLemmas.{awaits-last}
use Rattle.sr_run.proofs.WritingLemmas.{gives-at, gives-told, gives-audit, gives-last-asides, gives-refusal, gives-nothing}
use Rattle.sr_run.proofs.background.ScriptSession.carry_out.Goals as goal
use Rattle.sr_run.proofs.background.ScriptSession.carry_out.Goals.{in-Ok-Text, in-Ok-Audit, in-Ok-Asides, in-Err-Refused, in-Err-Memory}

pub put_account-requires : goal.put_account-requires
put_account-requires g c =
    let is : SessionReplies c.args.command c.args.self.now c.tell.new.self c.clear.new.self.items c.tell.new.out.items (Ok (Asides c.in-Ok-Asides.count)) = rw c.in-Ok-Asides.field-0-is at c.in-Ok-Asides.ensures in
    awaits-last c.accepted_facts.result.now c.args.self.now c.tell.new.self c.in-Ok-Asides.count is.1 is.2 (c.accepted_facts.ensures ∙ ap (λ (s : Session). s.state.editing.accepted) c.self.view_is)

pub returns : goal.returns
returns g c =
    elim c.match-tell.branch [
      | in-Ok-Text w ↦
          let is : SessionReplies c.args.command c.args.self.now c.tell.new.self [] c.tell.new.out.items (Ok Text) = rw (w.in-Ok-Text.field-0-is, c.clear.ensures.items) at w.in-Ok-Text.ensures in
          gives-at (λ domain told next. Tells domain c.args.command told next) c.args.number c.args.self.now c.tell.new.self _ (written (g.K.Sink.held w.put.new.sink) (g.K.Sink.faults w.put.new.sink) w.put.new.self) _ _ _ (ap (λ s. written (g.K.Sink.held s) (g.K.Sink.faults s) _) w.sink-is ∙ ap (λ o. written (g.K.Sink.held w.put.new.sink) (g.K.Sink.faults w.put.new.sink) o) w.out-is) w.result-is
          (gives-told (λ domain told next. Tells domain c.args.command told next) c.args.number c.args.self.now c.tell.new.self _ _ c.tell.new.out.items w.put.result w.accepted.result is
          (subst (λ t. Puts (written (g.K.Sink.held c.args.sink.now) (g.K.Sink.faults c.args.sink.now) c.args.out.now) (written (g.K.Sink.held w.put.new.sink) (g.K.Sink.faults w.put.new.sink) w.put.new.self) t w.put.result) w.deref.ensures.value w.put.ensures.puts)
          w.accepted.ensures)
      | in-Ok-Audit w ↦
          let is : SessionReplies c.args.command c.args.self.now c.tell.new.self c.clear.new.self.items c.tell.new.out.items (Ok Audit) = rw w.in-Ok-Audit.field-0-is at w.in-Ok-Audit.ensures in
          gives-at (λ domain told next. Tells domain c.args.command told next) c.args.number c.args.self.now c.tell.new.self _ (written (g.K.Sink.held w.put_audit.new.sink) (g.K.Sink.faults w.put_audit.new.sink) w.put_audit.new.out) _ _ _ (ap (λ s. written (g.K.Sink.held s) (g.K.Sink.faults s) _) w.sink-is ∙ ap (λ o. written (g.K.Sink.held w.put_audit.new.sink) (g.K.Sink.faults w.put_audit.new.sink) o) w.out-is) w.result-is
          (gives-audit c.args.command c.args.number c.args.self.now c.tell.new.self _ _ w.put_audit.result w.accepted-in-Ok-Audit.result is.0 is.2 is.4
          (subst (λ (o : Option NumberedNet). WritesAudit o (written (g.K.Sink.held c.args.sink.now) (g.K.Sink.faults c.args.sink.now) c.args.out.now) (written (g.K.Sink.held w.put_audit.new.sink) (g.K.Sink.faults w.put_audit.new.sink) w.put_audit.new.out) w.put_audit.result)
          (w.current.ensures ∙ ap (λ (s : Session). s.state.current) c.self.view_is) w.put_audit.ensures)
          w.accepted-in-Ok-Audit.ensures)
      | in-Ok-Asides w ↦
          let is : SessionReplies c.args.command c.args.self.now c.tell.new.self c.clear.new.self.items c.tell.new.out.items (Ok (Asides w.in-Ok-Asides.count)) = rw w.in-Ok-Asides.field-0-is at w.in-Ok-Asides.ensures in
          gives-at (λ domain told next. Tells domain c.args.command told next) c.args.number c.args.self.now c.tell.new.self _ (written (g.K.Sink.held w.put_account.new.sink) (g.K.Sink.faults w.put_account.new.sink) w.put_account.new.out) _ _ _ (ap (λ s. written (g.K.Sink.held s) (g.K.Sink.faults s) _) w.sink-is ∙ ap (λ o. written (g.K.Sink.held w.put_account.new.sink) (g.K.Sink.faults w.put_account.new.sink) o) w.out-is) w.result-is
          (gives-last-asides c.args.command c.args.number c.args.self.now c.tell.new.self w.accepted_facts.result.now w.in-Ok-Asides.count _ _ w.put_account.result w.accepted-in-Ok-Asides.result is.0 is.1 is.2 is.4
          (w.accepted_facts.ensures ∙ ap (λ (s : Session). s.state.editing.accepted) c.self.view_is) w.put_account.ensures
          w.accepted-in-Ok-Asides.ensures)
      | in-Err-Refused w ↦
          let is : SessionReplies c.args.command c.args.self.now c.tell.new.self c.clear.new.self.items c.tell.new.out.items (Err (Refused w.in-Err-Refused.reason)) = rw w.in-Err-Refused.field-0-is at w.in-Err-Refused.ensures in
          gives-at (λ domain told next. Tells domain c.args.command told next) c.args.number c.args.self.now c.tell.new.self _ (written (g.K.Sink.held w.write_refusal.new.sink) (g.K.Sink.faults w.write_refusal.new.sink) w.write_refusal.new.out) _ _ _ (ap (λ s. written (g.K.Sink.held s) (g.K.Sink.faults s) _) w.sink-is ∙ ap (λ o. written (g.K.Sink.held w.write_refusal.new.sink) (g.K.Sink.faults w.write_refusal.new.sink) o) w.out-is) w.result-is
          (gives-refusal (λ domain told next. Tells domain c.args.command told next) c.args.number c.args.self.now c.tell.new.self _ _ w.in-Err-Refused.reason w.write_refusal.result is w.write_refusal.ensures)
      | in-Err-Memory w ↦
          gives-at (λ domain told next. Tells domain c.args.command told next) c.args.number c.args.self.now c.tell.new.self _ (written (g.K.Sink.held c.args.sink.now) (g.K.Sink.faults c.args.sink.now) c.args.out.now) _ _ _ (ap (λ s. written (g.K.Sink.held s) (g.K.Sink.faults s) c.match-tell.out) w.sink-is ∙ ap (λ o. written (g.K.Sink.held c.args.sink.now) (g.K.Sink.faults c.args.sink.now) o) w.out-is) w.result-is
          (gives-nothing (λ domain told next. Tells domain c.args.command told next) c.args.number c.args.self.now c.tell.new.self (written (g.K.Sink.held c.args.sink.now) (g.K.Sink.faults c.args.sink.now) c.args.out.now) w.in-Err-Memory.error)
    ]
