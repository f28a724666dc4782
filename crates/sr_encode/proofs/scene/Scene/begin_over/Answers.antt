use Rattle.std.proofs.Common.{◌≡◌, ◌<◌, false, ap, sym, ◌∙◌, subst}
use Rattle.std.specs.Prelude.{slice_index}
use Rattle.sr_model.specs.Graph.{link_count, tail, head, metric, has}
use Rattle.sr_encode.specs.Aftermath.{Aftermath}
use Rattle.sr_encode.specs.Search.{BeginsAt}
use Rattle.sr_encode.proofs.SearchLemmas.{start-exact}
use Rattle.sr_encode.proofs.scene.Scene.begin_over.Goals as goal

pub returns-clause-begin : goal.returns-clause-begin
returns-clause-begin c =
    let a : Aftermath = record { net = c.self.inside.net.now; failed = c.self.inside.spaces.now.failed; source = c.self.inside.source.0; post = c.self.inside.cells.now } in
    let within : c.args.first.0 < link_count a.net.graph = subst (λ (b : Aftermath). c.args.first.0 < link_count b.net.graph) (sym c.self.view_is) c.requires.first in
    let begins : tail a.net.graph c.args.first.0 ≡ a.source = subst (λ (b : Aftermath). tail b.net.graph c.args.first.0 ≡ b.source) (sym c.self.view_is) c.requires.begins in
    let to : c.edge-edge.result.to.0 ≡ head a.net.graph c.args.first.0 = c.edge-edge.ensures.to ∙ ap (λ g. head g c.args.first.0) c.graph.ensures.value in
    let cost : c.edge-edge.result.metric ≡ metric a.net.graph c.args.first.0 = c.edge-edge.ensures.metric ∙ ap (λ g. metric g c.args.first.0) c.graph.ensures.value in
    let outside : has a.failed c.args.first.0 ≡ false = ap (λ x. has x c.args.first.0) (sym c.failed.ensures) ∙ sym c.has.ensures ∙ c.if-has.false in
    let cell : metric a.net.graph c.args.first.0 ≡ slice_index a.post (head a.net.graph c.args.first.0) = sym cost ∙ c.if-edge-self.false ∙ ap (λ k. slice_index a.post k) to in
    rw (← c.self.view_is) (subst (λ k. BeginsAt a c.args.first.0 k) (sym to) (start-exact a c.args.first.0 c.self.invariant.1.graph c.self.invariant.1.row within begins outside cell))
