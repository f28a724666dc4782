use Rattle.std.proofs.Common.{◌≡◌, ℕ, ◌<◌}
use Rattle.sr_repair.specs.Stack.{segment_at}
use Rattle.sr_diff.specs.Named.{segment_name}
use Rattle.sr_diff.proofs.alike.same_segments.Given as goal

-- the segments so far are the same
abbrev pub invariant-loop-k : goal.invariant-loop-k
invariant-loop-k l =
    (j : ℕ) → j < l.k
    → segment_name l.fn.old.graph (segment_at l.fn.segments j) ≡ segment_name l.fn.new.graph (segment_at l.fn.others j)
