use Rattle.std.proofs.Common.{refl}
use Rattle.sr_print.specs.Told.Told.{Dropped}
use Rattle.sr_run.specs.State.{State}
use Rattle.sr_run.proofs.HandlerLemmas.{drops-told}
use Rattle.sr_run.proofs.session.DomainSession.drop_staged.Goals as goal

pub returns-clause-told : goal.returns-clause-told
returns-clause-told c =
    let old : State = record { editing = c.self.inside.editor; current = c.self.inside.current; previous = c.self.inside.previous; draft = c.self.inside.draft } in
    record {
      told = Dropped c.drop_staged-dropped.result;
      is = drops-told old c.args.self.now c.drop_staged-dropped.new.self c.drop_staged-dropped.result c.self.view_is c.drop_staged-dropped.ensures.count c.drop_staged-dropped.ensures.dropped;
      accepted = refl;
      appended = λ number. c.in_ok-put_dropped.ensures.line;
    }
