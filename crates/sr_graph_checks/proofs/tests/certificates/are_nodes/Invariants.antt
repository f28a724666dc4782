use Rattle.std.proofs.Common.{ℕ, ◌<◌}
use Rattle.sr_repair.specs.Stack.{segment_at}
use Rattle.sr_cert.specs.Verdict.{IsSegmentWithin}
use Rattle.sr_graph_checks.proofs.tests.certificates.are_nodes.Given as goal

abbrev pub invariant-loop-segment : goal.invariant-loop-segment
invariant-loop-segment l = (k : ℕ) → k < l.segment-index → IsSegmentWithin l.net (segment_at l.segments k)
