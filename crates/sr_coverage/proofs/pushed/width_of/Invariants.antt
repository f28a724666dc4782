use Rattle.std.proofs.Common.{◌<◌, ◌≤◌}
use Rattle.sr_coverage.specs.Pushed.{IsWide}
use Rattle.sr_coverage.proofs.pushed.width_of.Given as goal

-- wide enough for the nodes so far
abbrev pub invariant-loop-node : goal.invariant-loop-node
invariant-loop-node l = record {
  wide : IsWide l.fn.net l.node l.width;
  some : 0 < l.width;
  few : l.width ≤ 257;
}
