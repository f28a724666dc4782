use Rattle.std.proofs.Common.{◌≡◌, None, replicate}
use Rattle.sr_threads.proofs.taking.no_places.Given as goal

-- a place with nothing in it for each number so far
abbrev pub invariant-loop-number : goal.invariant-loop-number
invariant-loop-number g l = l.places.items ≡ replicate l._number None
