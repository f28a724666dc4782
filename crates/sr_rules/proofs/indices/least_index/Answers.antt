use Rattle.std.proofs.Common.{◌≡◌, ◌<◌, map, length, arith, ap, sym, ◌∙◌}
use Rattle.std.proofs.lemmas.List.{get_or-map}
use Rattle.sr_domain.specs.Nodes.{labels_of}
use Rattle.sr_model.specs.Label.{nameless}
use Rattle.sr_model.specs.Rule.{node_at}
use Rattle.sr_rules.proofs.OutsideLemmas.{from-more}
use Rattle.sr_rules.proofs.indices.least_index.Goals as goal

pub loop-node-preserved : goal.loop-node-preserved
loop-node-preserved c =
    let within : c.loop-node.node-index < length c.args.nodes.now = omega arith in
    let at : (node_at (map (labels_of c.args.facts.now) c.args.nodes.now) c.loop-node.node-index).index ≡ c.index_of.result =
    ap (λ l. l.index) (get_or-map (labels_of c.args.facts.now) c.args.nodes.now c.loop-node.node-index c.node-item.result nameless within)
    ∙ ap (λ v. (labels_of c.args.facts.now v).index) (sym c.node-item.is) ∙ sym c.index_of.ensures in
    rw c.first_of_both-found.ensures (from-more (map (labels_of c.args.facts.now) c.args.nodes.now) c.args.least c.loop-node.node-index c.loop-node.found c.index_of.result at c.loop-node.invariant)
