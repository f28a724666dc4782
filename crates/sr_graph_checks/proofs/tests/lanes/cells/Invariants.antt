use Rattle.std.proofs.Common.{◌≡◌, length}
use Rattle.sr_lanes.specs.Passes.{AreCells}
use Rattle.sr_graph_checks.proofs.tests.lanes.cells.Given as goal

abbrev pub invariant-loop-v : goal.invariant-loop-v
invariant-loop-v l = record { long : length l.row.items ≡ l.v; cells : AreCells l.row.items }
