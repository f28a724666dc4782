use Rattle.std.proofs.Common.{◌≡◌, ◌+◌, ◌<◌, true, false, arith, ap, sym, ◌∙◌, subst}
use Rattle.std.specs.Prelude.{is_some, not, slice_index}
use Rattle.sr_model.specs.declared.repair.Segment.TheVariants.{Adj}
use Rattle.sr_model.specs.Graph.{link_count, tail, head, metric, has, is_overloaded}
use Rattle.sr_model.specs.Label.{adj_at}
use Rattle.sr_encode.specs.Aftermath.{Aftermath}
use Rattle.sr_encode.specs.Search.{StepsTo}
use Rattle.sr_encode.proofs.SceneLemmas.{step-over}
use Rattle.sr_encode.proofs.scene.Scene.step_over.Goals as goal

pub returns-clause-step : goal.returns-clause-step
returns-clause-step c =
    let a : Aftermath = record { net = c.self.inside.net.now; failed = c.self.inside.spaces.now.failed; source = c.self.inside.source.0; post = c.self.inside.cells.now } in
    let within : c.args.link.0 < link_count a.net.graph = subst (λ (b : Aftermath). c.args.link.0 < link_count b.net.graph) (sym c.self.view_is) c.requires.link in
    let clear : is_overloaded a.net.graph (tail a.net.graph c.args.link.0) ≡ false = subst (λ (b : Aftermath). is_overloaded b.net.graph (tail b.net.graph c.args.link.0) ≡ false) (sym c.self.view_is) c.requires.clear in
    let from : c.edge-edge.result.from.0 ≡ tail a.net.graph c.args.link.0 = c.edge-edge.ensures.from ∙ ap (λ g. tail g c.args.link.0) c.graph.ensures.value in
    let to : c.edge-edge.result.to.0 ≡ head a.net.graph c.args.link.0 = c.edge-edge.ensures.to ∙ ap (λ g. head g c.args.link.0) c.graph.ensures.value in
    let cost : c.edge-edge.result.metric ≡ metric a.net.graph c.args.link.0 = c.edge-edge.ensures.metric ∙ ap (λ g. metric g c.args.link.0) c.graph.ensures.value in
    let outside : has a.failed c.args.link.0 ≡ false = ap (λ x. has x c.args.link.0) (sym c.failed.ensures) ∙ sym c.has.ensures ∙ c.if-has.false in
    let label : is_some (adj_at a.net c.args.link.0) ≡ true = ap is_some (sym c.adj.ensures.value) ∙ c.is_none.ensures ∙ ap not c.if-is_none.false in
    let sum : slice_index a.post (tail a.net.graph c.args.link.0) + metric a.net.graph c.args.link.0 ≡ slice_index a.post (head a.net.graph c.args.link.0) =
    omega (arith, cost, c.if-self-edge.false, ap (λ k. slice_index a.post k) from, ap (λ k. slice_index a.post k) to) in
    rw (← c.self.view_is) (subst (λ k. StepsTo a (tail a.net.graph c.args.link.0) (Adj c.args.link) k) (sym to) (step-over a c.args.link within outside label clear sum))
