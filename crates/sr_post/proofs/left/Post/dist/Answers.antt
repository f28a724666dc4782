use Rattle.std.proofs.Common.{◌≡◌, ◌<◌, ◌≤◌, arith, ap, sym, subst, ◌∙◌, slice_index}
use Rattle.sr_model.specs.declared.link.TheConstants.{FAR}
use Rattle.sr_model.specs.Graph.{node_count}
use Rattle.sr_model.specs.Walk.{IsDistance, NoWalk}
use Rattle.sr_model.specs.Case.{source_of}
use Rattle.sr_post.specs.Post.{Remains}
use Rattle.sr_laws.proofs.Failures.{failed-one}
use Rattle.sr_post.proofs.left.Post.dist.Goals as goal

pub returns-then-cell-lt-FAR-clause-distance : goal.returns-then-cell-lt-FAR-clause-distance
returns-then-cell-lt-FAR-clause-distance c = λ n case p x f.
    let is : c.as_slice.result.now ≡ c.args.self.now.cells = c.as_slice.ensures ∙ ap (λ (k : Remains). k.cells) c.self.view_is in
    let within : c.args.v.0 < node_count n.graph = omega (arith, p.row.long, c.requires) in
    let near : slice_index c.args.self.now.cells c.args.v.0 < FAR = subst (λ r. slice_index r c.args.v.0 < FAR) is c.if-cell-lt-FAR.true in
    let there : IsDistance n.graph c.args.self.now.failed (source_of n.graph case) c.args.v.0 (slice_index c.args.self.now.cells c.args.v.0) = (p.row.each c.args.v.0 within).near near in
    subst (λ y. IsDistance n.graph y (source_of n.graph case) c.args.v.0 (slice_index c.as_slice.result.now c.args.v.0)) (failed-one n.graph case c.args.self.now.failed x p.failed f)
    (subst (λ r. IsDistance n.graph c.args.self.now.failed (source_of n.graph case) c.args.v.0 (slice_index r c.args.v.0)) (sym is) there)

pub returns-else-cell-lt-FAR-clause-distance : goal.returns-else-cell-lt-FAR-clause-distance
returns-else-cell-lt-FAR-clause-distance c = λ n case p x f.
    let is : c.as_slice.result.now ≡ c.args.self.now.cells = c.as_slice.ensures ∙ ap (λ (k : Remains). k.cells) c.self.view_is in
    let within : c.args.v.0 < node_count n.graph = omega (arith, p.row.long, c.requires) in
    let far : FAR ≤ slice_index c.args.self.now.cells c.args.v.0 = subst (λ r. FAR ≤ slice_index r c.args.v.0) is c.if-cell-lt-FAR.false in
    subst (λ y. NoWalk n.graph y (source_of n.graph case) c.args.v.0) (failed-one n.graph case c.args.self.now.failed x p.failed f) ((p.row.each c.args.v.0 within).far far)
