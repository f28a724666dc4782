use Rattle.std.proofs.Common.{Option, subst}
use Rattle.sr_repair.specs.Version.{NumberedNet}
use Rattle.sr_run.specs.Reasons.{TellsReason}
use Rattle.sr_run.specs.Session.{TellsOf}
use Rattle.sr_run.specs.Handlers.{Carries}
use Rattle.sr_run.proofs.SessionLemmas.{searching-told}
use Rattle.sr_run.proofs.background.ScriptSession.why.Goals as goal

pub returns : goal.returns
returns g c =
    searching-told (TellsReason c.args.repair.now) c.args.self.now c.self.inside.domain c.self.inside.work c.self.inside.usage c.self.inside.steps c.reason.new.steps c.args.out.now.items c.reason.new.out.items c.reason.result c.self.view_is c.self.invariant.reports
    (subst (λ (o : Option NumberedNet). Carries (TellsOf (TellsReason c.args.repair.now) o) c.args.out.now.items c.reason.new.out.items c.reason.result) c.current.ensures c.reason.ensures.told) c.reason.ensures.searches
