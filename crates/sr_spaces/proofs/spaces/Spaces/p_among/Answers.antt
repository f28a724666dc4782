use Rattle.std.proofs.Common.{◌≡◌, ℕ, ◌<◌, true, sym, ◌∙◌, subst, IfSome}
use Rattle.sr_lanes.specs.Bits.{is_in}
use Rattle.sr_model.specs.declared.link.NodeNo.{NodeNo}
use Rattle.sr_model.specs.Graph.{node_count}
use Rattle.sr_spaces.specs.Failure.{Failure, IsAround}
use Rattle.sr_spaces.proofs.AwayLemmas.{away-told, own-told}
use Rattle.sr_spaces.proofs.spaces.Spaces.p_among.Goals as goal

pub returns-then-has : goal.returns-then-has
returns-then-has c =
    let around : (c.in-Some.node.0 < node_count c.self.inside.graph.now) × IsAround c.self.inside.graph.now c.self.inside.failed.now c.in-Some.node.0 =
    subst (λ o. IfSome o (λ (f : NodeNo). (f.0 < node_count c.self.inside.graph.now) × IsAround c.self.inside.graph.now c.self.inside.failed.now f.0)) c.in-Some.is c.self.invariant.node in
    let u : c.args.u.0 < node_count c.self.inside.graph.now = subst (λ (s : Failure). c.args.u.0 < node_count s.graph) (sym c.self.view_is) c.requires.u in
    let each : (v : ℕ) → is_in c.args.among v ≡ true → v < node_count c.self.inside.graph.now = subst (λ (s : Failure). (v : ℕ) → is_in c.args.among v ≡ true → v < node_count s.graph) (sym c.self.view_is) c.requires.among in
    rw (← c.self.view_is) (own-told c.self.inside.graph.now c.self.inside.trees.now c.cells-row.result.now c.args.u.0 (is_in c.args.among) (is_in c.finite_among-reached.result) c.self.invariant.trees u each c.cells-row.ensures.cells c.finite_among-reached.ensures
    c.self.inside.failed.now c.in-Some.node.0 (is_in c.through_node.result) (is_in c.and_not-away.result) around.1 c.through_node.ensures c.and_not-away.ensures
    (sym c.has.ensures ∙ c.if-has.true) (is_in c.with.result) c.with.ensures)

pub returns : goal.returns
returns c =
    let around : (c.in-Some.node.0 < node_count c.self.inside.graph.now) × IsAround c.self.inside.graph.now c.self.inside.failed.now c.in-Some.node.0 =
    subst (λ o. IfSome o (λ (f : NodeNo). (f.0 < node_count c.self.inside.graph.now) × IsAround c.self.inside.graph.now c.self.inside.failed.now f.0)) c.in-Some.is c.self.invariant.node in
    let u : c.args.u.0 < node_count c.self.inside.graph.now = subst (λ (s : Failure). c.args.u.0 < node_count s.graph) (sym c.self.view_is) c.requires.u in
    let each : (v : ℕ) → is_in c.args.among v ≡ true → v < node_count c.self.inside.graph.now = subst (λ (s : Failure). (v : ℕ) → is_in c.args.among v ≡ true → v < node_count s.graph) (sym c.self.view_is) c.requires.among in
    rw (← c.self.view_is) (away-told c.self.inside.graph.now c.self.inside.trees.now c.cells-row.result.now c.args.u.0 (is_in c.args.among) (is_in c.finite_among-reached.result) c.self.invariant.trees u each c.cells-row.ensures.cells c.finite_among-reached.ensures
    c.self.inside.failed.now c.in-Some.node.0 (is_in c.through_node.result) (is_in c.and_not-away.result) around.1 c.through_node.ensures c.and_not-away.ensures
    (sym c.has.ensures ∙ c.if-has.false))
