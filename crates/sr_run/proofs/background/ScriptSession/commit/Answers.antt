use Rattle.std.proofs.Common.{Option, subst, sym}
use Rattle.sr_repair.specs.Version.{NumberedNet}
use Rattle.sr_run.specs.Edits.{Commits}
use Rattle.sr_run.specs.Handlers.{Carries, IsPublished, SessionTells}
use Rattle.sr_run.proofs.SessionLemmas.{commit-keeps, commit-stopped, commit-told, kept-either, kept-still, session}
use Rattle.sr_run.proofs.background.ScriptSession.commit.Goals as goal
use Rattle.sr_run.proofs.background.ScriptSession.commit.Goals.{in-Ok-publish_last, in-Err-publish_last}

pub invariant_of-self : goal.invariant_of-self
invariant_of-self g c =
    kept-still c.self.inside.domain c.commit.new.self c.self.inside.work
    (commit-keeps c.self.inside.domain c.commit.new.self c.args.out.now.items c.commit.new.out.items c.in-Err.stop c.in-Err.ensures.version) c.self.invariant

pub returns-in-Err : goal.returns-in-Err
returns-in-Err g c =
    commit-stopped c.args.self.now c.self.inside.domain c.commit.new.self c.self.inside.work c.self.inside.usage c.self.inside.steps c.commit.new.steps c.args.out.now.items c.commit.new.out.items c.in-Err.stop
    c.self.view_is c.self.invariant.reports c.in-Err.ensures.version c.in-Err.ensures.searches

pub invariant_of-self-2 : goal.invariant_of-self-2
invariant_of-self-2 g c =
    kept-either c.self.inside.domain c.commit.new.self c.current.result.now c.self.inside.work c.publish_last.new.work c.self.inside.usage c.publish_last.new.usage c.args.out.now.items c.commit.new.out.items c.publish_last.result
    c.current.ensures c.in-Ok.ensures.version c.publish_last.ensures c.self.invariant

pub returns : goal.returns
returns g c =
    elim c.match-publish_last.branch [
      | in-Ok-publish_last w ↦
          subst (Carries (SessionTells Commits c.args.self.now (session c.commit.new.self c.publish_last.new.work c.publish_last.new.usage c.commit.new.steps)) c.args.out.now.items c.commit.new.out.items) (sym w.result-is)
          (commit-told c.args.self.now c.self.inside.domain c.commit.new.self c.self.inside.work c.publish_last.new.work c.self.inside.usage c.publish_last.new.usage c.self.inside.steps c.commit.new.steps c.args.out.now.items c.commit.new.out.items
          c.self.view_is c.self.invariant.reports c.in-Ok.ensures.version c.in-Ok.ensures.searches
          (subst (λ (o : Option NumberedNet). IsPublished o c.self.inside.work c.self.inside.usage c.publish_last.new.work c.publish_last.new.usage) c.current.ensures w.in-Ok-publish_last.ensures))
      | in-Err-publish_last w ↦
          subst (Carries (SessionTells Commits c.args.self.now (session c.commit.new.self c.publish_last.new.work c.publish_last.new.usage c.commit.new.steps)) c.args.out.now.items c.commit.new.out.items) (sym w.result-is) tt
    ]
