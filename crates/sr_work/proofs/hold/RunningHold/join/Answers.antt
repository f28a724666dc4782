use Rattle.std.proofs.Common.{sym}
use Rattle.sr_work.proofs.Held.{held-round, held-report}
use Rattle.sr_work.proofs.hold.RunningHold.join.Goals as goal

pub returns-in-Ok : goal.returns-in-Ok
returns-in-Ok g c =
    let v = c.self.inside.version.value in
    let rounds = rw c.in-Ok.is at c.join-readers.ensures.rounds in
    let one = held-round c.self.inside.watch v c.join-readers.result.readers.items c.in-Ok.rounds.items c.self.invariant rounds in
    let made = held-report v c.in-Ok.rounds.items c.index-made.result.now c.index-made.result.now one c.index-made.ensures in
    rw (c.report_of.ensures, sym c.self.view_is) made
