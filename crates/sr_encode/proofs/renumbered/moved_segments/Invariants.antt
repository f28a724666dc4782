use Rattle.std.proofs.Common.{◌≡◌, map, take}
use Rattle.sr_encode.specs.Renumbered.{moved_segment}
use Rattle.sr_encode.proofs.renumbered.moved_segments.Given as goal

-- the first n are renumbered
abbrev pub invariant-loop-n : goal.invariant-loop-n
invariant-loop-n l = l.list.items ≡ map (moved_segment l.links) (take l.n l.segments)
