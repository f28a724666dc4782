use Rattle.std.proofs.Common.{◌≡◌, ◌≤◌, ◌+◌, ◌-◌, ◌++◌, suc, reverse, refl, arith, subst}
use Rattle.sr_encode.specs.Waypoints.{waypoint_at, segments_to}
use Rattle.sr_encode.proofs.QueueLemmas.{chain-step}
use Rattle.sr_encode.proofs.waypoint.read_segments.Goals as goal

pub loop-preserved : goal.loop-preserved
loop-preserved c =
    let parent : (waypoint_at c.args.queue.now c.loop.at).parent ≤ c.loop.at = (c.requires.parents c.loop.at c.loop.invariant.0).0 in
    let left : (waypoint_at c.args.queue.now c.args.place).depth - c.loop.counter ≡ suc ((waypoint_at c.args.queue.now c.args.place).depth - (c.loop.counter + 1)) = omega arith in
    let before : segments_to c.args.queue.now (waypoint_at c.args.queue.now c.args.place).depth c.args.place ≡ segments_to c.args.queue.now (suc ((waypoint_at c.args.queue.now c.args.place).depth - (c.loop.counter + 1))) c.loop.at ++ reverse c.loop.list.items =
    subst (λ k. segments_to c.args.queue.now (waypoint_at c.args.queue.now c.args.place).depth c.args.place ≡ segments_to c.args.queue.now k c.loop.at ++ reverse c.loop.list.items) left c.loop.invariant.1 in (
      omega arith,
      rw c.in_ok-push.ensures.items (chain-step c.args.queue.now ((waypoint_at c.args.queue.now c.args.place).depth - (c.loop.counter + 1)) c.loop.at (segments_to c.args.queue.now (waypoint_at c.args.queue.now c.args.place).depth c.args.place) c.loop.list.items _ before refl),
    )
