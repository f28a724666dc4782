use Rattle.std.proofs.Common.{◌≡◌, get_or, [], ◌∙◌}
use Rattle.std.proofs.lemmas.List.{get_or_default}
use Rattle.sr_graph.proofs.SharingLemmas.{holdings-more}
use Rattle.sr_graph.proofs.sharing.holdings.Goals as goal

pub loop-link-preserved : goal.loop-link-preserved
loop-link-preserved c =
    let row : c.as_slice.result.now ≡ get_or c.args.groups.now c.loop-link.link [] = c.as_slice.ensures ∙ c.index-groups-link.is ∙ get_or_default c.args.groups.now c.loop-link.link c.index-groups-link.result [] c.loop-link-test.true in
    rw c.in_ok-add_holdings.ensures (holdings-more c.args.groups.now c.loop-link.link c.as_slice.result.now c.loop-link.list.items row c.loop-link.invariant)
