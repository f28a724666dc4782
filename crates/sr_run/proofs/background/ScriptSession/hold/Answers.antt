use Rattle.std.proofs.Common.{refl, ap, ◌∙◌}
use Rattle.std.specs.Arc.{arc_value}
use Rattle.sr_repair.specs.Version.{NumberedNet}
use Rattle.sr_print.specs.Told.Told.{Hold}
use Rattle.sr_run.proofs.SessionLemmas.{session, hold-told}
use Rattle.sr_run.proofs.background.ScriptSession.hold.Goals as goal

pub returns : goal.returns
returns g c =
    let state = c.self.inside.domain in
    let same = c.self.view_is in
    record {
      told = Hold c.number.result;
      is = hold-told c.args.self.now (session state c.self.inside.work c.self.inside.usage c.self.inside.steps) (arc_value c.in-Ok.version) c.replace.new.dest c.number.result same c.in-Ok.ensures
          (c.replace.ensures.after ∙ c.in_ok-work.ensures) (c.number.ensures ∙ ap (λ (v : NumberedNet). v.number) c.deref.ensures);
      accepted = refl;
      appended = λ number. c.in_ok-put_hold.ensures.line;
    }
