use Rattle.std.proofs.Common.{◌≡◌, ap, sym, subst, ◌∙◌}
use Rattle.std.specs.Prelude.{List, Bool}
use Rattle.sr_model.specs.Case.{source_of}
use Rattle.sr_post.specs.declared.kept.HopNodes.{HopNodes}
use Rattle.sr_post.specs.Kept.{AreKeptHops}
use Rattle.sr_post.specs.Post.{Remains}
use Rattle.sr_laws.proofs.Failures.{failed-one}
use Rattle.sr_post.proofs.left.Post.kept.Goals as goal

pub returns-clause-hops : goal.returns-clause-hops
returns-clause-hops c = λ n case p x f.
    let is : c.deref.result.now ≡ c.args.self.now.kept = c.deref.ensures.value ∙ ap (λ (k : Remains). k.kept) c.self.view_is in
    subst (λ (kept : List HopNodes). AreKeptHops n.graph x (source_of n.graph case) kept) (sym is)
    (subst (λ (y : List Bool). AreKeptHops n.graph y (source_of n.graph case) c.args.self.now.kept) (failed-one n.graph case c.args.self.now.failed x p.failed f) p.hops)
