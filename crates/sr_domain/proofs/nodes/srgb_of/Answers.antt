use Rattle.std.proofs.Common.{◌∙◌, ap}
use Rattle.sr_domain.specs.Nodes.{ranges_from}
use Rattle.sr_domain.proofs.NodesLemmas.{ranges-ranged}
use Rattle.sr_domain.proofs.nodes.srgb_of.Goals as goal

pub loop-id-init : goal.loop-id-init
loop-id-init c =
    ranges-ranged c.args.node c.own_ids-first.result c.as_map-database.result.now.entries c.into_iter-id-iterator.result c.own_ids-first.ensures (c.into_iter-id-iterator.ensures.into_iter_gives ∙ c.range-id-items.ensures.between tt)
    ∙ ap (ranges_from c.args.node) c.as_map-database.ensures.entries
