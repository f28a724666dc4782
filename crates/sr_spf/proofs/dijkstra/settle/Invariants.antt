use Rattle.std.proofs.Common.{◌+◌, ◌*◌, sum}
use Rattle.sr_model.specs.Graph.{link_count}
use Rattle.std.specs.BinaryHeap.{heap_items, heap_len}
use Rattle.sr_spf.specs.Queue.{IsQueued}
use Rattle.sr_spf.proofs.dijkstra.settle.Given as goal

abbrev pub invariant-pops : goal.invariant-pops
invariant-pops l = IsQueued (record { graph = l.graph; without = l.without; source = l.source.0 }) l.cells (heap_items l.queue) l.source.0 (link_count l.graph)

abbrev pub decreases-pops : goal.decreases-pops
decreases-pops l = 2 * sum l.cells + heap_len l.queue
