use Rattle.std.proofs.Common.{◌∙◌, sym, refl, subst}
use Rattle.std.specs.Arc.{arc_value}
use Rattle.sr_work.specs.Watched.{Watched, IsNumberedNext}
use Rattle.sr_work.proofs.Publishing.{started-after}
use Rattle.sr_work.proofs.watched.RunningWatch.publish.Goals as goal

pub invariant_of-self : goal.invariant_of-self
invariant_of-self g c =
    let s = c.self.inside in
    let k = c.self.invariant in
    let v = arc_value c.args.version in
    let w : Watched = record { watchers = s.watchers; rounds = s.rounds; given = s.given; versions = s.writer.list.versions } in
    let next : IsNumberedNext s.writer.list.versions v = subst (λ (x : Watched). IsNumberedNext x.versions v) (sym c.self.view_is) c.requires.next in
    let after = started-after s.watch s.writer.list (arc_value s.first) v w c.publish.result c.publish.new.self.list c.publish.new.self.stuck c.publish.new.self.stuck next k.1 refl c.publish.ensures.list in
    (c.publish.ensures.given ∙ k.0, after)
