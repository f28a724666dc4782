use Rattle.std.proofs.Common.{◌≡◌, ◌<◌, ◌-◌, ◌++◌, length, reverse}
use Rattle.sr_encode.specs.Waypoints.{segments_to}
use Rattle.sr_encode.proofs.waypoint.read_segments.Given as goal

abbrev pub invariant-loop : goal.invariant-loop
invariant-loop l =
    (l.at < length l.queue)
    × (segments_to l.queue l.depth l.place ≡ segments_to l.queue (l.depth - l.counter) l.at ++ reverse l.list.items)
