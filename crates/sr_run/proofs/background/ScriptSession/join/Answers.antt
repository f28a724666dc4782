use Rattle.std.proofs.Common.{◌≡◌, ◌++◌, List, sym, ap, subst, ◌∙◌}
use Rattle.std.proofs.lemmas.Result.{on_ok_weaker}
use Rattle.sr_model.specs.declared.audit.RoundReport.{RoundReport}
use Rattle.sr_print.specs.Told.{spelled}
use Rattle.sr_print.specs.Told.Told.{Joined}
use Rattle.sr_work.specs.Works.{AreReportsOf, usage_joined}
use Rattle.sr_work.specs.declared.work.Work.{Work}
use Rattle.sr_run.specs.Handlers.{PutsJoined}
use Rattle.sr_run.proofs.SessionLemmas.{session, joined-puts}
use Rattle.sr_run.proofs.background.ScriptSession.join.Goals as goal

pub returns : goal.returns
returns g c =
    let state = c.self.inside.domain in
    let same = c.self.view_is in
    let reports = c.in_ok-reports.reports.items in
    let are = subst (λ (w : Work). AreReportsOf w reports) c.replace-work.ensures.value c.in_ok-reports.ensures.reports in
    let counted = subst (λ (w : Work). c.join.new.usage ≡ usage_joined w c.self.inside.usage) c.replace-work.ensures.value c.in_ok-reports.ensures.usage in
    on_ok_weaker c.put_all_joined.result
    (λ text.
    subst (λ (w : Work). PutsJoined c.args.self.now (session state w c.join.new.usage c.self.inside.steps) c.args.out.now.items c.put_all_joined.new.out.items) (sym c.replace-work.ensures.after)
    (joined-puts c.args.self.now (session state c.self.inside.work c.self.inside.usage c.self.inside.steps) reports c.join.new.usage c.args.out.now.items c.put_all_joined.new.out.items same are counted
    (λ number. text number ∙ ap (λ (r : List RoundReport). c.args.out.now.items ++ spelled number (Joined r)) c.deref.ensures.value)))
    c.put_all_joined.ensures
