use Rattle.std.specs.BinaryHeap.{heap_items}
use Rattle.sr_spf.specs.Begun.{IsEntered}
use Rattle.sr_spf.proofs.begun.enter.Given as goal

abbrev pub invariant-loop-node : goal.invariant-loop-node
invariant-loop-node l = IsEntered (record { graph = l.graph; without = l.without; source = l.source.0 }) l.cells (heap_items l.queue) l.lost l.node-index
