use Rattle.std.proofs.Common.{◌≤◌, length}
use Rattle.sr_graph.proofs.RangesLemmas.{AreBegun}
use Rattle.sr_graph.proofs.ranges.starts.Given as goal

abbrev pub invariant-loop-node : goal.invariant-loop-node
invariant-loop-node l = AreBegun l.links l.starts.items l.node l.next × (l.next ≤ length l.links)
