use Rattle.std.proofs.Common.{◌≡◌, ◌+◌, ap, ◌∙◌, subst, arith}
use Rattle.sr_engine.specs.Written.{Says, written}
use Rattle.sr_engine.proofs.Answering.{says-nothing}
use Rattle.sr_make.specs.Script.{lsp_line, lsp_lines}
use Rattle.sr_make.proofs.ScriptLemmas.{lines-broke, lines-said, lines-stopped}
use Rattle.sr_make.proofs.script.put_lsp_lines.Goals as goal

pub loop-before-init : goal.loop-before-init
loop-before-init g c = says-nothing (written (g.K.Sink.held c.args.sink.now) (g.K.Sink.faults c.args.sink.now) c.args.out.now)

pub loop-before-preserved : goal.loop-before-preserved
loop-before-preserved g c =
    let pairs = c.args.pairs.now in
    let line = c.deref.ensures.value ∙ c.in-Ok.ensures ∙ ap (λ i. lsp_line pairs (i + 1)) c.from.ensures in
    lines-said pairs c.loop-before.before (written (g.K.Sink.held c.args.sink.now) (g.K.Sink.faults c.args.sink.now) c.args.out.now) (written (g.K.Sink.held c.loop-before.sink) (g.K.Sink.faults c.loop-before.sink) c.loop-before.out) (written (g.K.Sink.held c.put.new.sink) (g.K.Sink.faults c.put.new.sink) c.put.new.self) c.deref.result.now line c.loop-before.invariant c.in-Ok-put.ensures.puts

pub returns-in-Err-put : goal.returns-in-Err-put
returns-in-Err-put g c =
    let pairs = c.args.pairs.now in
    let line = c.deref.ensures.value ∙ c.in-Ok.ensures ∙ ap (λ i. lsp_line pairs (i + 1)) c.from.ensures in
    lines-broke pairs c.loop-before.before c.args.nodes (written (g.K.Sink.held c.args.sink.now) (g.K.Sink.faults c.args.sink.now) c.args.out.now) (written (g.K.Sink.held c.loop-before.sink) (g.K.Sink.faults c.loop-before.sink) c.loop-before.out) (written (g.K.Sink.held c.put.new.sink) (g.K.Sink.faults c.put.new.sink) c.put.new.self) c.deref.result.now c.in-Err-put.fault c.loop-before-test.true line c.loop-before.invariant c.in-Err-put.ensures.puts

pub returns-in-Err : goal.returns-in-Err
returns-in-Err g c = lines-stopped c.args.pairs.now c.loop-before.before c.args.nodes (written (g.K.Sink.held c.args.sink.now) (g.K.Sink.faults c.args.sink.now) c.args.out.now) (written (g.K.Sink.held c.loop-before.sink) (g.K.Sink.faults c.loop-before.sink) c.loop-before.out) c.in-Err.error c.loop-before-test.true c.loop-before.invariant

pub returns : goal.returns
returns g c =
    let all : c.loop-before.before ≡ c.args.nodes = omega (arith, c.loop-before-test.false, c.loop-before.auto.before-end) in
    subst (λ n. Says (written (g.K.Sink.held c.args.sink.now) (g.K.Sink.faults c.args.sink.now) c.args.out.now) (written (g.K.Sink.held c.loop-before.sink) (g.K.Sink.faults c.loop-before.sink) c.loop-before.out) (lsp_lines c.args.pairs.now n)) all c.loop-before.invariant
