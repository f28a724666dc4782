use Rattle.sr_lanes.proofs.SizeLemmas.{size-less}
use Rattle.sr_post.proofs.KeptHopLemmas.{alone-from, but-left, but-kept, but-over}
use Rattle.sr_post.proofs.kept.keep_singly.Goals as goal

pub untried-smaller-in-Continue-1 : goal.untried-smaller-in-Continue-1
untried-smaller-in-Continue-1 c = size-less c.untried.untried c.take_first.new.self c.in-Some.node c.in-Some.ensures.first c.in-Some.ensures.left

pub untried-smaller : goal.untried-smaller
untried-smaller c = size-less c.untried.untried c.take_first.new.self c.in-Some.node c.in-Some.ensures.first c.in-Some.ensures.left

pub untried-preserved-in-Continue-1 : goal.untried-preserved-in-Continue-1
untried-preserved-in-Continue-1 c =
    but-kept c.args.spaces.now.graph c.args.spaces.now.failed c.args.source.0 c.args.endangered c.untried.untried c.take_first.new.self c.in-Some.node c.untried.hops
    c.untried.invariant c.in-Some.ensures.left c.in-Some-least_hop.hop c.alone.result c.keep.new.self
    (alone-from c.alone.result c.in-Some.node c.alone.ensures) c.in-Some-least_hop.ensures c.in_ok-keep.ensures

pub untried-preserved : goal.untried-preserved
untried-preserved c =
    but-left c.args.spaces.now.graph c.args.spaces.now.failed c.args.source.0 c.args.endangered c.untried.untried c.take_first.new.self c.in-Some.node c.untried.hops
    c.untried.invariant c.in-Some.ensures.left c.in_default-least_hop.ensures

pub returns : goal.returns
returns c =
    but-over c.args.spaces.now.graph c.args.spaces.now.failed c.args.source.0 c.args.endangered c.untried.untried c.untried.hops
    c.untried.invariant c.in_default.ensures.first c.requires.endangered
