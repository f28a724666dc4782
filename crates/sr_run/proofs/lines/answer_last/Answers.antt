use Rattle.sr_engine.proofs.Last.{no-bytes, some-bytes}
use Rattle.sr_run.proofs.LineLemmas.{last-answered, last-ended_broken, last-broken, last-none}
use Rattle.sr_run.proofs.lines.answer_last.Goals as goal

pub returns-then-is_empty : goal.returns-then-is_empty
returns-then-is_empty g c = last-none c.args.session.now c.finish.new.self c.args.number c.args.line.now _ _ c.finish.result (no-bytes c.args.line.now c.if-is_empty.ensures) c.finish.ensures

pub returns-in-Ok-finish : goal.returns-in-Ok-finish
returns-in-Ok-finish g c =
    last-answered c.args.session.now c.answer.new.self c.finish-in-Ok.new.self c.args.number c.args.line.now _ _ _ c.in-Ok.refused c.in-Ok-finish.field-0 (some-bytes c.args.line.now c.if-is_empty.ensures) c.in-Ok.ensures c.in-Ok-finish.ensures

pub returns-in-Err-finish : goal.returns-in-Err-finish
returns-in-Err-finish g c =
    last-ended_broken c.args.session.now c.answer.new.self c.args.number c.args.line.now _ _ _ c.in-Ok.refused c.in-Err-finish.fault (some-bytes c.args.line.now c.if-is_empty.ensures) c.in-Ok.ensures c.in-Err-finish.ensures

pub returns-in-Err : goal.returns-in-Err
returns-in-Err g c = last-broken c.args.session.now c.args.number c.args.line.now _ _ c.in-Err.fault (some-bytes c.args.line.now c.if-is_empty.ensures) c.in-Err.ensures
