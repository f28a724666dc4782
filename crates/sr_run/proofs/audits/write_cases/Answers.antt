use Rattle.std.proofs.Common.{◌≡◌, ◌<◌, ap, ◌∙◌, subst, arith}
use Rattle.sr_model.specs.Label.{Net}
use Rattle.sr_repair.specs.Answers.{case_count}
use Rattle.sr_engine.specs.Written.{written}
use Rattle.sr_run.proofs.AuditLemmas.{WroteCases, cases-none, cases-more, cases-all, cases-broke, cases-stopped}
use Rattle.sr_run.proofs.audits.write_cases.Goals as goal

pub loop-place-init : goal.loop-place-init
loop-place-init g c = cases-none c.args.version.now.net (written (g.K.Sink.held c.args.sink.now) (g.K.Sink.faults c.args.sink.now) c.args.out.now)

pub returns-in-Err-put : goal.returns-in-Err-put
returns-in-Err-put g c =
    let net = c.args.version.now.net in
    let count : c.case_count-place-end.result ≡ case_count net.graph = c.case_count-place-end.ensures.count ∙ ap case_count (c.graph.ensures.value ∙ ap (λ (n : Net). n.graph) c.net.ensures.value) in
    let less : c.loop-place.place < case_count net.graph = omega (arith, count, c.loop-place-test.true) in
    cases-broke net c.loop-place.place (written (g.K.Sink.held c.args.sink.now) (g.K.Sink.faults c.args.sink.now) c.args.out.now) (written (g.K.Sink.held c.loop-place.sink) (g.K.Sink.faults c.loop-place.sink) c.loop-place.out) (written (g.K.Sink.held c.put.new.sink) (g.K.Sink.faults c.put.new.sink) c.put.new.self)
    c.put_case.new.out.items c.in-Err-put.fault c.net.ensures.net c.is_answered.ensures less c.loop-place.invariant (rw c.clear.ensures.items at c.in-Ok.ensures.lines) (rw c.deref.ensures.value at c.in-Err-put.ensures.puts)

pub returns-in-Err : goal.returns-in-Err
returns-in-Err g c =
    let net = c.args.version.now.net in
    let count : c.case_count-place-end.result ≡ case_count net.graph = c.case_count-place-end.ensures.count ∙ ap case_count (c.graph.ensures.value ∙ ap (λ (n : Net). n.graph) c.net.ensures.value) in
    let less : c.loop-place.place < case_count net.graph = omega (arith, count, c.loop-place-test.true) in
    cases-stopped net c.loop-place.place (written (g.K.Sink.held c.args.sink.now) (g.K.Sink.faults c.args.sink.now) c.args.out.now) (written (g.K.Sink.held c.loop-place.sink) (g.K.Sink.faults c.loop-place.sink) c.loop-place.out)
    c.in-Err.error c.net.ensures.net c.is_answered.ensures less c.loop-place.invariant

pub loop-place-preserved : goal.loop-place-preserved
loop-place-preserved g c = cases-more c.args.version.now.net c.loop-place.place (written (g.K.Sink.held c.args.sink.now) (g.K.Sink.faults c.args.sink.now) c.args.out.now) (written (g.K.Sink.held c.loop-place.sink) (g.K.Sink.faults c.loop-place.sink) c.loop-place.out) (written (g.K.Sink.held c.put.new.sink) (g.K.Sink.faults c.put.new.sink) c.put.new.self)
    c.put_case.new.out.items c.loop-place.invariant (rw c.clear.ensures.items at c.in-Ok.ensures.lines) (rw c.deref.ensures.value at c.in-Ok-put.ensures.puts)

pub returns : goal.returns
returns g c =
    let net = c.args.version.now.net in
    let count : c.case_count-place-end.result ≡ case_count net.graph = c.case_count-place-end.ensures.count ∙ ap case_count (c.graph.ensures.value ∙ ap (λ (n : Net). n.graph) c.net.ensures.value) in
    let all : c.loop-place.place ≡ case_count net.graph = omega (arith, count, c.loop-place-test.false, c.loop-place.auto.place-end) in
    cases-all net (written (g.K.Sink.held c.args.sink.now) (g.K.Sink.faults c.args.sink.now) c.args.out.now) (written (g.K.Sink.held c.loop-place.sink) (g.K.Sink.faults c.loop-place.sink) c.loop-place.out) (subst (λ m. WroteCases net m (written (g.K.Sink.held c.args.sink.now) (g.K.Sink.faults c.args.sink.now) c.args.out.now) (written (g.K.Sink.held c.loop-place.sink) (g.K.Sink.faults c.loop-place.sink) c.loop-place.out)) all c.loop-place.invariant)
