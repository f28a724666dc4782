use Rattle.std.proofs.Common.{◌≡◌, length}
use Rattle.sr_lanes.specs.Passes.{AreCells}
use Rattle.sr_graph_checks.proofs.tests.lanes.equality_is_plain.Given as goal

abbrev pub invariant-loop-v : goal.invariant-loop-v
invariant-loop-v l = record { long : length l.other.items ≡ l.count; cells : AreCells l.other.items }
