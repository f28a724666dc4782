use Rattle.std.proofs.Common.{Option, Err, sym, subst}
use Rattle.sr_base.specs.declared.SinkFault.TheVariants.{Memory}
use Rattle.sr_repair.specs.Version.{NumberedNet}
use Rattle.sr_engine.specs.Written.{written}
use Rattle.sr_run.specs.Handlers.{WritesAudit}
use Rattle.sr_run.proofs.AuditLemmas.{audit-written, audit-broke, audit-stopped}
use Rattle.sr_run.proofs.audits.put_audit.Goals as goal

pub returns-in-Err-of : goal.returns-in-Err-of
returns-in-Err-of g c =
    subst (λ (o : Option NumberedNet). WritesAudit o (written (g.K.Sink.held c.args.sink.now) (g.K.Sink.faults c.args.sink.now) c.args.out.now) (written (g.K.Sink.held c.args.sink.now) (g.K.Sink.faults c.args.sink.now) c.args.out.now) (Err (Memory c.in-Err-of.error))) (sym c.in-Ok.ensures)
    (audit-stopped c.in-Ok.version.now (written (g.K.Sink.held c.args.sink.now) (g.K.Sink.faults c.args.sink.now) c.args.out.now) c.in-Err-of.error c.net.ensures.net c.is_answered.ensures)

pub returns-in-Ok-write_cases : goal.returns-in-Ok-write_cases
returns-in-Ok-write_cases g c =
    subst (λ (o : Option NumberedNet). WritesAudit o (written (g.K.Sink.held c.args.sink.now) (g.K.Sink.faults c.args.sink.now) c.args.out.now) (written (g.K.Sink.held c.write_counts.new.sink) (g.K.Sink.faults c.write_counts.new.sink) c.write_counts.new.out) c.write_counts.result) (sym c.in-Ok.ensures)
    (audit-written c.in-Ok.version.now (written (g.K.Sink.held c.args.sink.now) (g.K.Sink.faults c.args.sink.now) c.args.out.now) (written (g.K.Sink.held c.write_cases.new.sink) (g.K.Sink.faults c.write_cases.new.sink) c.write_cases.new.out) (written (g.K.Sink.held c.write_counts.new.sink) (g.K.Sink.faults c.write_counts.new.sink) c.write_counts.new.out) c.write_counts.result c.in-Ok-write_cases.ensures c.write_counts.ensures)

pub returns : goal.returns
returns g c =
    subst (λ (o : Option NumberedNet). WritesAudit o (written (g.K.Sink.held c.args.sink.now) (g.K.Sink.faults c.args.sink.now) c.args.out.now) (written (g.K.Sink.held c.write_cases.new.sink) (g.K.Sink.faults c.write_cases.new.sink) c.write_cases.new.out) (Err c.in-Err-write_cases.fault)) (sym c.in-Ok.ensures)
    (audit-broke c.in-Ok.version.now (written (g.K.Sink.held c.args.sink.now) (g.K.Sink.faults c.args.sink.now) c.args.out.now) (written (g.K.Sink.held c.write_cases.new.sink) (g.K.Sink.faults c.write_cases.new.sink) c.write_cases.new.out) c.in-Err-write_cases.fault c.in-Err-write_cases.ensures)
