use Rattle.std.proofs.Common.{refl, []}
use Rattle.sr_engine.specs.Reading.{streams}
use Rattle.sr_engine.proofs.Ending.{early}
use Rattle.sr_run.specs.Handlers.{session_conduct}
use Rattle.sr_run.proofs.lines.run_script.Goals as goal

pub returns-in-Err : goal.returns-in-Err
returns-in-Err g c = early session_conduct c.args.session.now c.args.session.now
    (streams (g.S.Source.left c.args.source.now) (g.S.Source.faults c.args.source.now) (g.K.Sink.held c.args.sink.now) (g.K.Sink.faults c.args.sink.now) []) c.in-Err.field-0 refl
