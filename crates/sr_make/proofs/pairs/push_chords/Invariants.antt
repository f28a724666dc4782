use Rattle.std.proofs.Common.{◌≡◌, ◌++◌, filter, map}
use Rattle.std.specs.List.{range_with_len}
use Rattle.sr_make.specs.Pairs.{begins_chord, chord_span}
use Rattle.sr_make.proofs.pairs.push_chords.Given as goal

-- the chords that begin at the nodes so far were appended
abbrev pub invariant-loop-before : goal.invariant-loop-before
invariant-loop-before l = l.spans.items ≡ l.fn.spans.items ++ map (chord_span l.nodes) (filter begins_chord (range_with_len 1 l.before))
