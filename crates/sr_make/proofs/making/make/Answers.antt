use Rattle.std.proofs.Common.{subst}
use Rattle.sr_engine.specs.Written.{Says, written}
use Rattle.sr_make.specs.Script.{made_script}
use Rattle.sr_make.proofs.MakingLemmas.{makes-ended}
use Rattle.sr_make.proofs.making.make.Goals as goal

pub returns-in-Ok : goal.returns-in-Ok
returns-in-Ok g c =
    let script = made_script c.args.nodes c.args.start in
    let says = subst (λ gathered. Says (written (g.K.Sink.held c.args.sink.now) (g.K.Sink.faults c.args.sink.now) gathered) (written (g.K.Sink.held c.put_script.new.sink) (g.K.Sink.faults c.put_script.new.sink) c.put_script.new.out) script) c.new-out.ensures c.in-Ok.ensures in
    makes-ended script (g.K.Sink.held c.args.sink.now) (g.K.Sink.faults c.args.sink.now) (written (g.K.Sink.held c.put_script.new.sink) (g.K.Sink.faults c.put_script.new.sink) c.put_script.new.out) (written (g.K.Sink.held c.finish.new.sink) (g.K.Sink.faults c.finish.new.sink) c.finish.new.self) c.finish.result says c.finish.ensures
