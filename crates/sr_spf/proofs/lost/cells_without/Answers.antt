use Rattle.sr_lanes.proofs.SizeLemmas.{size-less}
use Rattle.sr_spf.proofs.lost.cells_without.Goals as goal

pub left-smaller : goal.left-smaller
left-smaller c = size-less c.left.left c.take_first.new.self c.in-Some.node c.in-Some.ensures.first c.in-Some.ensures.left
