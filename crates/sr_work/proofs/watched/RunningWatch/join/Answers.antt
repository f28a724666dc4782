use Rattle.std.proofs.Common.{◌*◌, ◌∙◌, ap, sym, subst, arith}
use Rattle.std.specs.Prelude.{IfOk}
use Rattle.std.specs.Arc.{arc_value}
use Rattle.std.proofs.lemmas.Result.{IfOk-weaker}
use Rattle.sr_model.specs.declared.audit.RoundReport.{RoundReport}
use Rattle.std.specs.Global.{Vec}
use Rattle.sr_store.specs.Counts.{usage_turned}
use Rattle.sr_watch.specs.Starts.{task_of}
use Rattle.sr_work.specs.Reports.{AreReports}
use Rattle.sr_work.specs.Reported.{AreMade}
use Rattle.sr_work.specs.Watched.{Watched}
use Rattle.sr_work.proofs.Made.{all-reports}
use Rattle.sr_work.proofs.Turns.{back-seats, back-count, all-turns, on-ok}
use Rattle.sr_work.proofs.watched.RunningWatch.join.Goals as goal

pub close_store-requires : goal.close_store-requires
close_store-requires g c =
    let s = c.self.inside in
    let k = c.self.invariant.1 in
    let task = task_of k.inspect s.rounds 1 in
    let back = c.join-readers.result.readers in
    let count = back-count task k.readers s.watch.seated back.items k.started.seated c.join-readers.ensures.back in (
      back-seats task s.writer.list.store 0 k.readers s.watch.seated back.items k.started.seated c.join-readers.ensures.back k.seats,
      c.self.invariant.0 ∙ (sym k.given_is ∙ (count ∙ omega (arith, back.ok))),
    )

pub returns-in-Ok-clause-reports : goal.returns-in-Ok-clause-reports
returns-in-Ok-clause-reports g c =
    let s = c.self.inside in
    let w : Watched = record { watchers = s.watchers; rounds = s.rounds; given = s.given; versions = s.writer.list.versions } in
    let rounds = rw c.in-Ok.is at c.join-readers.ensures.rounds in
    let ended = c.in_ok-ended-in-Ok.ensures.ended in
    let made = rw (c.deref.ensures.value, c.deref-in-Ok.ensures) at c.reports_made.ensures in
    let all = IfOk-weaker c.reports_made.result (λ (v : Vec RoundReport). AreMade c.in_ok-ended-in-Ok.ended.items (arc_value s.first) c.in-Ok.rounds.items v.items) (λ (v : Vec RoundReport). AreReports w.watchers w.rounds w.versions v.items)
    (λ v is. all-reports s.watch s.writer.list (arc_value s.first) w c.join-readers.result.readers.items c.in-Ok.rounds.items c.in_ok-ended-in-Ok.ended.items v.items c.self.invariant.1 c.join-readers.ensures.back rounds ended is) made in
    subst (λ (x : Watched). IfOk c.reports_made.result (λ v. AreReports x.watchers x.rounds x.versions v.items)) c.self.view_is all

pub returns-in-Ok-clause-usage : goal.returns-in-Ok-clause-usage
returns-in-Ok-clause-usage g c =
    let s = c.self.inside in
    let w : Watched = record { watchers = s.watchers; rounds = s.rounds; given = s.given; versions = s.writer.list.versions } in
    let rounds = rw c.in-Ok.is at c.join-readers.ensures.rounds in
    let turns = all-turns s.watch s.writer.list (arc_value s.first) w c.join-readers.result.readers.items c.in-Ok.rounds.items c.self.invariant.1 rounds in
    on-ok c.reports_made.result (c.in_ok-ended-in-Ok.ensures.usage ∙ (ap (λ n. usage_turned c.args.usage.now n) turns ∙ ap (λ (x : Watched). usage_turned c.args.usage.now (x.given * x.rounds)) c.self.view_is))
