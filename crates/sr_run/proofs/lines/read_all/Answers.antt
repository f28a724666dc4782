use Rattle.sr_engine.specs.Reading.{streams}
use Rattle.sr_engine.proofs.Going.{going-start, going-line, going-takes}
use Rattle.sr_engine.proofs.Ending.{broke-line, broke-read, read-failed, too-much, ended, ended-broken, wants-memory}
use Rattle.sr_run.specs.Handlers.{session_conduct}
use Rattle.sr_run.proofs.lines.read_all.Goals as goal

pub steps-init : goal.steps-init
steps-init g c = going-start session_conduct c.args.session.now
    (streams (g.S.Source.left c.args.source.now) (g.S.Source.faults c.args.source.now) (g.K.Sink.held c.args.sink.now) (g.K.Sink.faults c.args.sink.now) c.args.out.now)
    c.args.script.now c.requires.script

pub steps-preserved-in-Ok-true : goal.steps-preserved-in-Ok-true
steps-preserved-in-Ok-true g c = going-line c.next.new.self c.steps.invariant c.in-Ok-true.field-0-test c.in-Ok-true.ensures c.line.ensures c.in-Ok.ensures c.clear.ensures

pub steps-preserved : goal.steps-preserved
steps-preserved g c = going-takes c.steps.invariant c.in-Ok-false.field-0-test c.in-Ok-false.ensures c.in-Ok-More.field-0-is c.in-Ok-More.ensures

pub returns-in-Err-answer : goal.returns-in-Err-answer
returns-in-Err-answer g c = broke-line c.next.new.self _ c.steps.invariant c.requires.out c.in-Ok-true.field-0-test c.in-Ok-true.ensures c.line.ensures c.in-Err-answer.ensures c.at.ensures

pub returns-in-Ok-Failed : goal.returns-in-Ok-Failed
returns-in-Ok-Failed g c = read-failed c.steps.invariant c.requires.out c.in-Ok-false.field-0-test c.in-Ok-false.ensures c.in-Ok-Failed.field-0-is c.in-Ok-Failed.ensures

pub returns-in-Ok-TooMuch : goal.returns-in-Ok-TooMuch
returns-in-Ok-TooMuch g c = too-much c.steps.invariant c.requires.out c.in-Ok-false.field-0-test c.in-Ok-false.ensures c.in-Ok-TooMuch.field-0-is c.in-Ok-TooMuch.ensures

pub returns-in-Err-read_on : goal.returns-in-Err-read_on
returns-in-Err-read_on g c = broke-read _ c.steps.invariant c.requires.out c.in-Ok-false.field-0-test c.in-Ok-false.ensures c.in-Err-read_on.ensures c.at-in-Err-read_on.ensures

pub returns-in-Err : goal.returns-in-Err
returns-in-Err g c = wants-memory _ c.in-Err.field-0 c.steps.invariant c.requires.out

pub returns-in-Ok-answer_last : goal.returns-in-Ok-answer_last
returns-in-Ok-answer_last g c = ended c.steps.invariant c.requires.out c.in-Ok-false.field-0-test c.in-Ok-false.ensures c.in-Ok-End.field-0-is c.in-Ok-End.ensures c.line-in-Ok-End.ensures c.in-Ok-answer_last.ensures c.finish.ensures

pub returns-in-Err-answer_last : goal.returns-in-Err-answer_last
returns-in-Err-answer_last g c = ended-broken _ c.steps.invariant c.requires.out c.in-Ok-false.field-0-test c.in-Ok-false.ensures c.in-Ok-End.field-0-is c.in-Ok-End.ensures c.line-in-Ok-End.ensures c.in-Err-answer_last.ensures c.at-in-Err-answer_last.ensures
