use Rattle.sr_lanes.proofs.SizeLemmas.{size-less}
use Rattle.sr_spf.proofs.ListedLemmas.{listing-next}
use Rattle.sr_spf.proofs.lost.all_listed.Goals as goal

pub left-smaller : goal.left-smaller
left-smaller c = size-less c.left.left c.take_first.new.self c.in-Some.node c.in-Some.ensures.first c.in-Some.ensures.left

pub left-preserved : goal.left-preserved
left-preserved c =
    rw c.in_ok-push.ensures.items
    (listing-next c.args.set c.left.left c.take_first.new.self c.left.nodes.items (record { 0 = c.in-Some.node }) c.left.invariant c.in-Some.ensures.first c.in-Some.ensures.left)
