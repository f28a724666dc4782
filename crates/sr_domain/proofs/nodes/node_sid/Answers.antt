use Rattle.std.proofs.Common.{◌∙◌, ap}
use Rattle.sr_domain.specs.Nodes.{sid_from}
use Rattle.sr_domain.proofs.NodesLemmas.{sid-ranged}
use Rattle.sr_domain.proofs.nodes.node_sid.Goals as goal

pub loop-id-init : goal.loop-id-init
loop-id-init c =
    sid-ranged c.args.node c.own_ids-first.result c.as_map-database.result.now.entries c.into_iter-id-iterator.result c.own_ids-first.ensures (c.into_iter-id-iterator.ensures.into_iter_gives ∙ c.range-id-items.ensures.between tt)
    ∙ ap (sid_from c.args.node) c.as_map-database.ensures.entries
