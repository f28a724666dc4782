use Rattle.std.proofs.Common.{◌-◌, ◌+◌, ◌*◌, length}
use Rattle.sr_engine.specs.Going.{Going, stand}
use Rattle.sr_engine.specs.Reading.{streams}
use Rattle.sr_run.specs.Handlers.{session_conduct}
use Rattle.sr_run.proofs.lines.read_all.Given as goal

abbrev pub invariant-steps : goal.invariant-steps
invariant-steps g l = Going session_conduct l.fn.session
    (streams (g.S.Source.left l.fn.source) (g.S.Source.faults l.fn.source) (g.K.Sink.held l.fn.sink) (g.K.Sink.faults l.fn.sink) l.fn.out)
    (streams (g.S.Source.left l.source) (g.S.Source.faults l.source) (g.K.Sink.held l.sink) (g.K.Sink.faults l.sink) l.out)
    (stand l.script l.number l.refused l.session)

abbrev pub decreases-steps : goal.decreases-steps
decreases-steps g l = 2 * (33554433 - l.script.taken) + length l.script.unread
