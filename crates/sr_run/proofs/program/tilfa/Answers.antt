use Rattle.std.proofs.Common.{refl, ◌≡◌, subst, Some}
use Rattle.sr_words.specs.Tasks.{IsTaskOf}
use Rattle.sr_words.specs.declared.task.AskedTask.TheVariants as task
use Rattle.sr_engine.specs.Endings.{devices_of}
use Rattle.sr_run.specs.Usage.{lent_of}
use Rattle.sr_run.proofs.ProgramLemmas.{runs-to, makes-to, runs-nothing, runs-unread, completes}
use Rattle.sr_run.proofs.program.tilfa.Goals as goal

pub returns-in-Ok-Some-Run-clause-outcome : goal.returns-in-Ok-Some-Run-clause-outcome
returns-in-Ok-Some-Run-clause-outcome g c =
    let is : c.in-Ok-Some-Run.field-0 ≡ Some task.Run = cc (c.in-Ok-Some-Run.field-0-is, c.in-Ok-Some-Run.field-0-0-is) in
    let ask = subst (IsTaskOf c.args.words.now) is c.in-Ok-Some-Run.ensures.task in
    runs-to c.args.words.now _ _ (lent_of c.args.usage.now c.args.steps) (lent_of c.run_lent-end.new.usage c.run_lent-end.result.steps) c.run_lent-end.result.end c.status.result ask c.run_lent-end.ensures c.status.ensures

pub returns-in-Ok-Some-Run-clause-completes : goal.returns-in-Ok-Some-Run-clause-completes
returns-in-Ok-Some-Run-clause-completes g c =
    completes c.args.words.now (devices_of (g.S.Source.left c.args.source.now) (g.K.Sink.held c.args.sink.now) (g.S.Source.faults c.args.source.now) (g.K.Sink.faults c.args.sink.now))
    (devices_of (g.S.Source.left c.run_lent-end.new.source) (g.K.Sink.held c.run_lent-end.new.sink) (g.S.Source.faults c.run_lent-end.new.source) (g.K.Sink.faults c.run_lent-end.new.sink)) (lent_of c.args.usage.now c.args.steps) (lent_of c.run_lent-end.new.usage c.run_lent-end.result.steps) c.status.result (returns-in-Ok-Some-Run-clause-outcome g c)

pub returns-in-Ok-Some-Make-clause-outcome : goal.returns-in-Ok-Some-Make-clause-outcome
returns-in-Ok-Some-Make-clause-outcome g c =
    let is : c.in-Ok-Some-Make.field-0 ≡ Some (task.Make c.in-Ok-Some-Make.nodes c.in-Ok-Some-Make.start) =
    cc (c.in-Ok-Some-Make.field-0-is, c.in-Ok-Some-Make.field-0-0-is, c.in-Ok-Some-Make.nodes-is, c.in-Ok-Some-Make.start-is) in
    let ask = subst (IsTaskOf c.args.words.now) is c.in-Ok-Some-Make.ensures.task in
    makes-to c.args.words.now c.in-Ok-Some-Make.nodes c.in-Ok-Some-Make.start
    (devices_of (g.S.Source.left c.args.source.now) (g.K.Sink.held c.args.sink.now) (g.S.Source.faults c.args.source.now) (g.K.Sink.faults c.args.sink.now))
    (devices_of (g.S.Source.left c.args.source.now) (g.K.Sink.held c.make.new.sink) (g.S.Source.faults c.args.source.now) (g.K.Sink.faults c.make.new.sink))
    (lent_of c.args.usage.now c.args.steps) c.make.result c.status-in-Ok-Some-Make.result ask refl refl c.make.ensures c.status-in-Ok-Some-Make.ensures

pub returns-in-Ok-None-clause-outcome : goal.returns-in-Ok-None-clause-outcome
returns-in-Ok-None-clause-outcome g c =
    runs-nothing c.args.words.now (devices_of (g.S.Source.left c.args.source.now) (g.K.Sink.held c.args.sink.now) (g.S.Source.faults c.args.source.now) (g.K.Sink.faults c.args.sink.now)) (lent_of c.args.usage.now c.args.steps)
    (subst (IsTaskOf c.args.words.now) c.in-Ok-None.field-0-is c.in-Ok-None.ensures.task)

pub returns-in-Ok-None-clause-completes : goal.returns-in-Ok-None-clause-completes
returns-in-Ok-None-clause-completes g c =
    completes c.args.words.now (devices_of (g.S.Source.left c.args.source.now) (g.K.Sink.held c.args.sink.now) (g.S.Source.faults c.args.source.now) (g.K.Sink.faults c.args.sink.now))
    (devices_of (g.S.Source.left c.args.source.now) (g.K.Sink.held c.args.sink.now) (g.S.Source.faults c.args.source.now) (g.K.Sink.faults c.args.sink.now)) (lent_of c.args.usage.now c.args.steps) (lent_of c.args.usage.now c.args.steps) 2 (returns-in-Ok-None-clause-outcome g c)

pub returns-in-Err-clause-outcome : goal.returns-in-Err-clause-outcome
returns-in-Err-clause-outcome g c =
    runs-unread c.args.words.now (devices_of (g.S.Source.left c.args.source.now) (g.K.Sink.held c.args.sink.now) (g.S.Source.faults c.args.source.now) (g.K.Sink.faults c.args.sink.now)) (lent_of c.args.usage.now c.args.steps)
    c.status-in-Err.result c.in-Err.ensures.refused c.status-in-Err.ensures
