use Rattle.sr_lanes.proofs.SizeLemmas.{size-less}
use Rattle.sr_spaces.proofs.spaces.Spaces.p_singly.Goals as goal

pub left-smaller-then-in_p : goal.left-smaller-then-in_p
left-smaller-then-in_p c = size-less c.left.left c.take_first.new.self c.in-Some.node c.in-Some.ensures.first c.in-Some.ensures.left

pub left-smaller : goal.left-smaller
left-smaller c = size-less c.left.left c.take_first.new.self c.in-Some.node c.in-Some.ensures.first c.in-Some.ensures.left
