use Rattle.std.proofs.Common.{◌∙◌, ap}
use Rattle.std.specs.List.{flat_map}
use Rattle.sr_domain.specs.Nodes.{imposition_in, own_parts}
use Rattle.sr_domain.proofs.DepthLemmas.{imposition-ranged}
use Rattle.sr_domain.proofs.nodes.imposition.Goals as goal

pub loop-id-init : goal.loop-id-init
loop-id-init c =
    imposition-ranged c.args.node c.own_ids-first.result c.as_map-database.result.now.entries c.into_iter-id-iterator.result c.own_ids-first.ensures (c.into_iter-id-iterator.ensures.into_iter_gives ∙ c.range-id-items.ensures.between tt)
    ∙ ap (λ entries. imposition_in (flat_map (own_parts c.args.node) entries)) c.as_map-database.ensures.entries
