use Rattle.std.proofs.Common.{◌≡◌, ◌↔◌, ℕ, ◌<◌, true, [], IsTrue, sym, subst}
use Rattle.sr_lanes.specs.Bits.{is_in}
use Rattle.sr_model.specs.Graph.{node_count}
use Rattle.sr_model.specs.Walk.{IsOnWay}
use Rattle.sr_spaces.specs.Failure.{HaveWalks}
use Rattle.sr_encode.specs.Aftermath.{Aftermath, AllAddUp}
use Rattle.sr_encode.proofs.PivotLemmas.{adds-walk, those-told}
use Rattle.sr_encode.proofs.scene.Scene.those_in_p.Goals.{After-is_empty}
use Rattle.sr_encode.proofs.scene.Scene.those_in_p.Goals as goal

-- the scene, as the lemmas see it
abbrev scene : After-is_empty → Aftermath
scene c = record { net = c.self.inside.net.now; failed = c.self.inside.spaces.now.failed; source = c.self.inside.source.0; post = c.self.inside.cells.now }

-- the waypoint is a node
within : (c : After-is_empty) → c.args.w.0 < node_count (scene c).net.graph
within c = subst (λ (a : Aftermath). c.args.w.0 < node_count a.net.graph) (sym c.self.view_is) c.requires.w

-- the distances add up at the nodes of the set
sums : (c : After-is_empty) → AllAddUp (scene c) c.args.w.0 c.args.tight
sums c = subst (λ (a : Aftermath). AllAddUp a c.args.w.0 c.args.tight) (sym c.self.view_is) c.requires.tight

-- and the waypoint reaches them
walks : (c : After-is_empty) → HaveWalks c.self.inside.spaces.now.graph c.args.w.0 c.args.tight
walks c = subst (λ g. HaveWalks g c.args.w.0 c.args.tight) (sym c.self.invariant.0)
    (λ v one. ((sums c v one).0, adds-walk (scene c) c.self.inside.pivot.0 c.args.w.0 c.self.invariant.1 c.self.invariant.2 (within c) c.if-w-self.false c.if-w-self-2.false v (sums c v one).0 (sums c v one).1))

pub reaching-requires-clause-reached : goal.reaching-requires-clause-reached
reaching-requires-clause-reached c = walks (goal.at.reaching-requires-clause-reached c).After-is_empty

pub returns : goal.returns
returns c =
    let at = (goal.at.returns c).After-is_empty in
    let way : (v : ℕ) → IsTrue (is_in c.reaching.result v) ↔ ((is_in c.args.tight v ≡ true) × IsOnWay (scene at).net.graph [] c.args.w.0 v c.self.inside.pivot.0) =
    subst (λ g. (v : ℕ) → IsTrue (is_in c.reaching.result v) ↔ ((is_in c.args.tight v ≡ true) × IsOnWay g [] c.args.w.0 v c.self.inside.pivot.0)) c.self.invariant.0 c.reaching.ensures in
    rw (← c.self.view_is) (those-told (scene at) c.self.inside.pivot.0 c.args.w.0 c.self.invariant.1 c.self.invariant.2 (within at) c.if-w-self.false c.if-w-self-2.false c.args.tight c.reaching.result c.and_not.result (sums at) way c.and_not.ensures)
