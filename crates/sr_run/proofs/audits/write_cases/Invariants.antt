use Rattle.sr_engine.specs.Written.{written}
use Rattle.sr_run.proofs.AuditLemmas.{WroteCases}
use Rattle.sr_run.proofs.audits.write_cases.Given as goal

-- the lines of the cases so far were written
abbrev pub invariant-loop-place : goal.invariant-loop-place
invariant-loop-place g l = WroteCases l.fn.version.net l.place
    (written (g.K.Sink.held l.fn.sink) (g.K.Sink.faults l.fn.sink) l.fn.out)
    (written (g.K.Sink.held l.sink) (g.K.Sink.faults l.sink) l.out)
