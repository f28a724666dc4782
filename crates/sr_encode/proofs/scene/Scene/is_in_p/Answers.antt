use Rattle.std.proofs.Common.{◌<◌, ◌↔◌, not, [], IsTrue, ap, sym, ◌∙◌, subst}
use Rattle.std.proofs.lemmas.Bool.{not-true, false_from_ne_true, true≢false}
use Rattle.sr_model.specs.Graph.{node_count}
use Rattle.sr_model.specs.Walk.{IsOnWay}
use Rattle.sr_spaces.specs.Failure.{HasWalk}
use Rattle.sr_encode.specs.Aftermath.{Aftermath, AddsUp}
use Rattle.sr_encode.proofs.PivotLemmas.{adds-walk, adds-p}
use Rattle.sr_encode.proofs.scene.Scene.is_in_p.Goals.{After-self}
use Rattle.sr_encode.proofs.scene.Scene.is_in_p.Goals as goal

-- the scene, as the lemmas see it
abbrev scene : After-self → Aftermath
scene c = record { net = c.self.inside.net.now; failed = c.self.inside.spaces.now.failed; source = c.self.inside.source.0; post = c.self.inside.cells.now }

-- the two are nodes
first : (c : After-self) → c.args.w.0 < node_count (scene c).net.graph
first c = subst (λ (a : Aftermath). c.args.w.0 < node_count a.net.graph) (sym c.self.view_is) c.requires.w

second : (c : After-self) → c.args.d.0 < node_count (scene c).net.graph
second c = subst (λ (a : Aftermath). c.args.d.0 < node_count a.net.graph) (sym c.self.view_is) c.requires.d

-- the distances by the one add up at the other
sum : (c : After-self) → AddsUp (scene c) c.args.w.0 c.args.d.0
sum c = subst (λ (a : Aftermath). AddsUp a c.args.w.0 c.args.d.0) (sym c.self.view_is) c.requires.sum

pub reaches-requires-clause-reached : goal.reaches-requires-clause-reached
reaches-requires-clause-reached c =
    let at = (goal.at.reaches-requires-clause-reached c).After-self in
    subst (λ g. HasWalk g c.args.w.0 c.args.d.0) (sym c.self.invariant.0)
    (adds-walk (scene at) c.self.inside.pivot.0 c.args.w.0 c.self.invariant.1 c.self.invariant.2 (first at) c.if-w-self.true c.if-w-self-2.true c.args.d.0 (second at) (sum at))

pub returns-then-w-self-2 : goal.returns-then-w-self-2
returns-then-w-self-2 c =
    let at = (goal.at.returns-then-w-self-2 c).After-self in
    let told = adds-p (scene at) c.self.inside.pivot.0 c.args.w.0 c.self.invariant.1 c.self.invariant.2 (first at) c.if-w-self.true c.if-w-self-2.true c.args.d.0 (second at) (sum at) in
    let way : IsTrue c.reaches.result ↔ IsOnWay (scene at).net.graph [] c.args.w.0 c.args.d.0 c.self.inside.pivot.0 =
    subst (λ g. IsTrue c.reaches.result ↔ IsOnWay g [] c.args.w.0 c.args.d.0 c.self.inside.pivot.0) c.self.invariant.0 c.reaches.ensures in
    rw (← c.self.view_is) (
      λ yes. told.1 (λ on. true≢false (sym (way.1 on) ∙ not-true c.reaches.result yes)),
      λ inside. ap not (false_from_ne_true c.reaches.result (λ yes. told.0 inside (way.0 yes))),
    )
