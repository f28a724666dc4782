use Rattle.std.proofs.Common.{Option, subst}
use Rattle.sr_repair.specs.Version.{NumberedNet}
use Rattle.sr_run.specs.Certificates.{TellsProof}
use Rattle.sr_run.specs.Session.{TellsOf}
use Rattle.sr_run.specs.Handlers.{Carries}
use Rattle.sr_run.proofs.SessionLemmas.{searching-told}
use Rattle.sr_run.proofs.background.ScriptSession.prove.Goals as goal

pub returns : goal.returns
returns g c =
    searching-told (TellsProof c.args.repair.now) c.args.self.now c.self.inside.domain c.self.inside.work c.self.inside.usage c.self.inside.steps c.prove.new.steps c.args.out.now.items c.prove.new.out.items c.prove.result c.self.view_is c.self.invariant.reports
    (subst (λ (o : Option NumberedNet). Carries (TellsOf (TellsProof c.args.repair.now) o) c.args.out.now.items c.prove.new.out.items c.prove.result) c.current.ensures c.prove.ensures.told) c.prove.ensures.searches
