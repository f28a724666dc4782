use Rattle.std.proofs.Common.{ℕ, ◌<◌, ◌≤◌}
use Rattle.sr_delta.specs.Pairs.{IsMatched}
use Rattle.sr_delta.proofs.risks.is_range_matched.Given as goal

abbrev pub invariant-loop-link : goal.invariant-loop-link
invariant-loop-link l = (k : ℕ) → l.fn.range.first ≤ k → k < l.link → IsMatched l.graph l.case l.other l.there k
