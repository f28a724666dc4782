use Rattle.std.proofs.Common.{◌≡◌, ◌++◌, map}
use Rattle.std.specs.List.{range_with_len}
use Rattle.sr_make.specs.Pairs.{ring_span}
use Rattle.sr_make.proofs.pairs.push_ring.Given as goal

-- the spans of the nodes so far were appended
abbrev pub invariant-loop-before : goal.invariant-loop-before
invariant-loop-before l = l.spans.items ≡ l.fn.spans.items ++ map (ring_span l.nodes) (range_with_len 1 l.before)
