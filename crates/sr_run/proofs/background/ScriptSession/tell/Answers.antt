use Rattle.std.proofs.Common.{Ok, sym, subst}
use Rattle.sr_run.specs.declared.session.Reply.TheVariants.{Text}
use Rattle.sr_run.specs.State.{Session}
use Rattle.sr_script.specs.declared.command.Command.{Command}
use Rattle.sr_script.specs.declared.command.Command.TheVariants.{Commit, Prove, Hold, Watch, Why}
use Rattle.sr_run.specs.Handlers.{SessionReplies}
use Rattle.sr_run.proofs.SessionLemmas.{joined-told, kept-still, of-domain, replies-lifted, session, told-replies}
use Rattle.sr_run.proofs.background.ScriptSession.tell.Goals as goal

pub returns-in-Hold : goal.returns-in-Hold
returns-in-Hold g c =
    subst (λ (k : Command). SessionReplies k c.args.self.now c.hold.new.self c.args.out.now.items c.hold.new.out.items c.replied.result) (sym c.in-Hold.is)
    (told-replies Hold _ _ _ _ c.hold.result c.replied.result c.hold.ensures c.replied.ensures)

pub returns-in-Watch : goal.returns-in-Watch
returns-in-Watch g c =
    subst (λ (k : Command). SessionReplies k c.args.self.now c.watch.new.self c.args.out.now.items c.watch.new.out.items c.replied-in-Watch.result) (sym c.in-Watch.is)
    (told-replies (Watch c.in-Watch.watchers c.in-Watch.rounds) _ _ _ _ c.watch.result c.replied-in-Watch.result c.watch.ensures c.replied-in-Watch.ensures)

pub returns-in-Commit : goal.returns-in-Commit
returns-in-Commit g c =
    subst (λ (k : Command). SessionReplies k c.args.self.now c.commit.new.self c.args.out.now.items c.commit.new.out.items c.replied-in-Commit.result) (sym c.in-Commit.is)
    (told-replies Commit _ _ _ _ c.commit.result c.replied-in-Commit.result c.commit.ensures c.replied-in-Commit.ensures)

pub returns-in-Prove : goal.returns-in-Prove
returns-in-Prove g c =
    subst (λ (k : Command). SessionReplies k c.args.self.now c.prove.new.self c.args.out.now.items c.prove.new.out.items c.replied-in-Prove.result) (sym c.in-Prove.is)
    (told-replies (Prove c.in-Prove.repair) _ _ _ _ c.prove.result c.replied-in-Prove.result c.prove.ensures c.replied-in-Prove.ensures)

pub returns-in-Why : goal.returns-in-Why
returns-in-Why g c =
    subst (λ (k : Command). SessionReplies k c.args.self.now c.why.new.self c.args.out.now.items c.why.new.out.items c.replied-in-Why.result) (sym c.in-Why.is)
    (told-replies (Why c.in-Why.repair) _ _ _ _ c.why.result c.replied-in-Why.result c.why.ensures c.replied-in-Why.ensures)

pub returns-in-Ok : goal.returns-in-Ok
returns-in-Ok g c =
    subst (λ (k : Command). SessionReplies k c.args.self.now c.join.new.self c.args.out.now.items c.join.new.out.items (Ok Text)) (sym c.in-Join.is)
    (joined-told c.args.self.now c.join.new.self c.args.out.now.items c.join.new.out.items c.in-Ok.ensures)

pub invariant_of-self : goal.invariant_of-self
invariant_of-self g c = kept-still c.self.inside.domain c.tell.new.self c.self.inside.work c.tell.ensures.current c.self.invariant

pub returns-in_default : goal.returns-in_default
returns-in_default g c =
    subst (λ (s : Session). SessionReplies c.args.command s (session c.tell.new.self c.self.inside.work c.self.inside.usage c.self.inside.steps) c.args.out.now.items c.tell.new.out.items c.tell.result) c.self.view_is
    (replies-lifted c.args.command c.self.inside.domain c.tell.new.self c.self.inside.work c.self.inside.usage c.self.inside.steps c.args.out.now.items c.tell.new.out.items c.tell.result
    (of-domain c.args.command c.in_default.not-Commit c.in_default.not-Prove c.in_default.not-Why c.in_default.not-Hold c.in_default.not-Watch c.in_default.not-Join) c.self.invariant.reports c.tell.ensures.told)
