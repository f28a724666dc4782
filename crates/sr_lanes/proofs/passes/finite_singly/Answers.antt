use Rattle.sr_lanes.proofs.SizeLemmas.{size-less}
use Rattle.sr_lanes.proofs.passes.finite_singly.Goals as goal

pub left-smaller-then-row-node-lt-CELL_AT_MOST : goal.left-smaller-then-row-node-lt-CELL_AT_MOST
left-smaller-then-row-node-lt-CELL_AT_MOST c = size-less c.left.left c.take_first.new.self c.in-Some.node c.in-Some.ensures.first c.in-Some.ensures.left

pub left-smaller : goal.left-smaller
left-smaller c = size-less c.left.left c.take_first.new.self c.in-Some.node c.in-Some.ensures.first c.in-Some.ensures.left
