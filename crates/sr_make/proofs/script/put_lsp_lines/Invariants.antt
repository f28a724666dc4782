use Rattle.sr_engine.specs.Written.{Says, written}
use Rattle.sr_make.specs.Script.{lsp_lines}
use Rattle.sr_make.proofs.script.put_lsp_lines.Given as goal

-- the lines of the nodes so far were answered
abbrev pub invariant-loop-before : goal.invariant-loop-before
invariant-loop-before g l = Says
    (written (g.K.Sink.held l.fn.sink) (g.K.Sink.faults l.fn.sink) l.fn.out)
    (written (g.K.Sink.held l.sink) (g.K.Sink.faults l.sink) l.out)
    (lsp_lines l.pairs l.before)
