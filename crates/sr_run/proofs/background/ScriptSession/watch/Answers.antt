use Rattle.std.proofs.Common.{refl, sym, ap, subst, ◌∙◌}
use Rattle.std.specs.Arc.{arc_value}
use Rattle.sr_repair.specs.Version.{NumberedNet}
use Rattle.sr_print.specs.Told.Told.{Watch}
use Rattle.sr_work.specs.Works.{StartsWatch}
use Rattle.sr_work.specs.declared.work.Work.{Work}
use Rattle.sr_run.proofs.SessionLemmas.{session, watch-told}
use Rattle.sr_run.proofs.background.ScriptSession.watch.Goals as goal

pub returns : goal.returns
returns g c =
    let state = c.self.inside.domain in
    let same = c.self.view_is in
    let starts = subst (λ (w : Work). StartsWatch c.args.watchers c.args.rounds (arc_value c.in-Ok.version) w c.self.inside.usage c.watch.new.usage) (sym c.replace.ensures.after) c.in_ok-work.ensures in
    record {
      told = Watch c.args.watchers c.args.rounds c.number.result;
      is = watch-told c.args.self.now (session state c.self.inside.work c.self.inside.usage c.self.inside.steps) (arc_value c.in-Ok.version) c.args.watchers c.args.rounds c.replace.new.dest c.watch.new.usage c.number.result same c.requires.few.2 c.in-Ok.ensures starts
          (c.number.ensures ∙ ap (λ (v : NumberedNet). v.number) c.deref.ensures);
      accepted = refl;
      appended = λ number. c.in_ok-put_watch.ensures.line;
    }
