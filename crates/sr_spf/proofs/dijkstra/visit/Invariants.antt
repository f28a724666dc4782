use Rattle.std.proofs.Common.{◌+◌, ◌*◌, ◌≤◌, sum}
use Rattle.std.specs.BinaryHeap.{heap_items, heap_len}
use Rattle.sr_spf.specs.Queue.{IsQueued}
use Rattle.sr_spf.proofs.dijkstra.visit.Given as goal

abbrev pub invariant-loop-i : goal.invariant-loop-i
invariant-loop-i l =
    IsQueued (record { graph = l.graph; without = l.without; source = l.fn.source.0 }) l.cells (heap_items l.queue) l.fn.node.0 l.i
    × (2 * sum l.cells + heap_len l.queue ≤ 2 * sum l.initial.cells + heap_len l.initial.queue)
    × (l.first ≤ l.i)
