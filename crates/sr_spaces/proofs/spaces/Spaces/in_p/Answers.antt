use Rattle.std.proofs.Common.{◌≡◌, ◌<◌, true, false, not, refl, ap, sym, ◌∙◌, subst, IfSome}
use Rattle.std.proofs.lemmas.Bool.{not-true, false_from_ne_true}
use Rattle.sr_model.specs.declared.link.NodeNo.{NodeNo}
use Rattle.sr_model.specs.declared.link.TheConstants.{FAR}
use Rattle.sr_model.specs.Graph.{node_count}
use Rattle.sr_model.specs.Space.{InP}
use Rattle.sr_spf.specs.Trees.{cell_at}
use Rattle.sr_spaces.specs.Failure.{Failure, IsAround}
use Rattle.sr_spaces.proofs.SpaceLemmas.{tree_cell}
use Rattle.sr_spaces.proofs.AroundLemmas.{way-outside, no_way-inside, own-inside}
use Rattle.sr_spaces.proofs.spaces.Spaces.in_p.Goals as goal

pub returns-then-u-v : goal.returns-then-u-v
returns-then-u-v c =
    rw (← c.self.view_is) (
      λ _. subst (λ k. InP c.self.inside.graph.now c.self.inside.failed.now c.args.u.0 k) c.if-u-v.true (own-inside c.self.inside.graph.now c.self.inside.failed.now c.args.u.0 c.self.invariant.trees.graph),
      λ _. refl,
    )

pub returns : goal.returns
returns c =
    let around : (c.in-Some.node.0 < node_count c.self.inside.graph.now) × IsAround c.self.inside.graph.now c.self.inside.failed.now c.in-Some.node.0 =
    subst (λ o. IfSome o (λ (f : NodeNo). (f.0 < node_count c.self.inside.graph.now) × IsAround c.self.inside.graph.now c.self.inside.failed.now f.0)) c.in-Some.is c.self.invariant.node in
    let u : c.args.u.0 < node_count c.self.inside.graph.now = subst (λ (s : Failure). c.args.u.0 < node_count s.graph) (sym c.self.view_is) c.requires.u in
    let v : c.args.v.0 < node_count c.self.inside.graph.now = subst (λ (s : Failure). c.args.v.0 < node_count s.graph) (sym c.self.view_is) c.requires.v in
    let near : cell_at c.self.inside.trees.now c.args.u.0 c.args.v.0 < FAR = rw c.cells-row.ensures.cells at c.if-row-v-ge-FAR.false in
    rw (← c.self.view_is) (
      λ yes. no_way-inside c.self.inside.graph.now c.self.inside.failed.now c.args.u.0 c.args.v.0 c.in-Some.node.0 (cell_at c.self.inside.trees.now c.args.u.0 c.args.v.0) around.1
          ((tree_cell c.self.inside.graph.now c.self.inside.trees.now c.args.u.0 c.args.v.0 c.self.invariant.trees u v).near near)
          (λ way. let both : true ≡ false = sym (c.reaches.ensures.1 way) ∙ not-true c.reaches.result yes in absurd (cc)),
      λ inside. ap not (false_from_ne_true c.reaches.result (λ comes. way-outside c.self.inside.graph.now c.self.inside.failed.now c.args.u.0 c.args.v.0 c.in-Some.node.0 around.1 c.if-u-v.false (c.reaches.ensures.0 comes) inside)),
    )
