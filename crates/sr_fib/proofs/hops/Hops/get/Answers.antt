use Rattle.std.proofs.Common.{◌≡◌, ◌<◌, length, get_or, ap, ◌∙◌, sym, arith, Some, List}
use Rattle.std.proofs.lemmas.List.{length-map}
use Rattle.std.proofs.lemmas.Option.{slice_get-get_or}
use Rattle.std.specs.Prelude.{slice_get}
use Rattle.sr_model.specs.declared.link.LinkNo.{LinkNo}
use Rattle.sr_model.specs.declared.entry.Out.{Out}
use Rattle.sr_model.specs.Graph.{Graph, head}
use Rattle.sr_fib.specs.Outs.{hop_over}
use Rattle.sr_fib.proofs.OutLemmas.{hop-at}
use Rattle.sr_fib.proofs.hops.Hops.get.Goals as goal

pub returns : goal.returns
returns c =
    let l : LinkNo = get_or c.self.inside.links.now c.args.place (record { 0 = 0 }) in
    let long : length c.args.self.now ≡ length c.self.inside.links.now = ap length (sym c.self.view_is) ∙ length-map c.self.inside.links.now (hop_over c.self.inside.net.now c.self.inside.end.node.0) in
    let within : c.args.place < length c.self.inside.links.now = omega (arith, c.requires) in
    let at : slice_get c.self.inside.links.now c.args.place ≡ Some l = slice_get-get_or c.self.inside.links.now c.args.place (record { 0 = 0 }) within in
    let to = c.edge.ensures.to ∙ ap (λ (g : Graph). head g l.0) c.graph.ensures.value in
    ap (λ (hops : List (LinkNo × Out)). slice_get hops c.args.place) (sym c.self.view_is)
    ∙ hop-at c.self.inside.net.now c.self.inside.end.node.0 c.self.inside.links.now c.args.place l c.edge.result.to.0 c.out.result at to c.out.ensures.value
