use Rattle.std.proofs.Common.{◌≡◌, true, sym, ◌∙◌, [], ◌∷◌}
use Rattle.std.proofs.lemmas.Bool.{and_parts}
use Rattle.sr_lanes.specs.Bits.{is_in}
use Rattle.sr_model.specs.Graph.{tail, head, has, link_at, IsLink}
use Rattle.sr_model.specs.Walk.{IsNextHop}
use Rattle.sr_walks.proofs.Walks.{walk-within}
use Rattle.sr_post.proofs.LedLemmas.{led-sum}
use Rattle.sr_post.proofs.kept.led_by.Goals as goal

pub p_among-requires-clause-among : goal.p_among-requires-clause-among
p_among-requires-clause-among c = λ v yes.
    let g = c.args.spaces.now.graph in
    let l = c.args.hop.0 in
    let led : is_in c.and-led.result v ≡ true = (and_parts (is_in c.and-led.result v) (is_in c.args.doubtful v) (sym (c.and.ensures v) ∙ yes)).0 in
    let member : is_in c.carried.result v ≡ true = (and_parts (is_in c.args.among v) (is_in c.carried.result v) (sym (c.and-led.ensures v) ∙ led)).1 in
    let hop : IsNextHop g [] (tail g l) v l = ((c.carried.ensures.nodes g c.requires.trees).each v).0 member in
    let k : IsLink g (link_at g l) = c.requires.trees.graph.each l c.requires.hop in
    walk-within g [] (tail g l) (l ∷ hop.more) v c.requires.trees.graph k.0 hop.shortest.0

pub returns : goal.returns
returns c =
    let g = c.args.spaces.now.graph in
    let x = c.args.spaces.now.failed in
    let l = c.args.hop.0 in
    let end : c.edge.result.to.0 ≡ head g l = rw c.graph.ensures at c.edge.ensures.to in
    let told : c.has.result ≡ has x l = rw c.failed.ensures at c.has.ensures in
    led-sum g x l c.args.doubtful c.args.among c.carried.result c.and-led.result c.and_not-sure.result c.and.result c.p_among.result c.or.result
    (c.carried.ensures.nodes g c.requires.trees) c.requires.doubtful (sym told ∙ c.if-has.false)
    (record { led_is = c.and-led.ensures; sure_is = c.and_not-sure.ensures; asked_is = c.and.ensures; spaces = rw end at c.p_among.ensures })
    c.or.ensures
