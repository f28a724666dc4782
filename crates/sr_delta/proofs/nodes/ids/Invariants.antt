use Rattle.std.proofs.Common.{◌≡◌, take}
use Rattle.sr_delta.proofs.nodes.ids.Given as goal

abbrev pub invariant-loop-v : goal.invariant-loop-v
invariant-loop-v l = l.list.items ≡ take l.v l.graph.systems
