use Rattle.std.proofs.Common.{refl, []}
use Rattle.sr_engine.specs.Reading.{streams}
use Rattle.sr_engine.proofs.Ending.{early}
use Rattle.sr_run.specs.Handlers.{session_conduct}
use Rattle.sr_run.specs.State.{session_before}
use Rattle.sr_run.proofs.program.run_lent.Goals as goal

pub returns-in-Err : goal.returns-in-Err
returns-in-Err g c =
    let none = early session_conduct (session_before c.args.usage.now c.args.steps) (session_before c.args.usage.now c.args.steps)
    (streams (g.S.Source.left c.args.source.now) (g.S.Source.faults c.args.source.now) (g.K.Sink.held c.args.sink.now) (g.K.Sink.faults c.args.sink.now) []) c.in-Err.field-0 refl in
    record { final = session_before c.args.usage.now c.args.steps; ran = none.ran; counts = none.counts; usage_is = refl; searches_are = refl }

pub returns : goal.returns
returns g c = record {
  final = c.run_script-end.new.session;
  ran = rw (c.new-session.ensures, c.replace.ensures.value) at c.run_script-end.ensures.ran;
  counts = c.run_script-end.ensures.counts;
  usage_is = c.end-steps.ensures.usage;
  searches_are = c.end-steps.ensures.searches;
}
