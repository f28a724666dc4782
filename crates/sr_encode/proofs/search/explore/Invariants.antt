use Rattle.std.proofs.Common.{◌-◌, ◌≤◌, length}
use Rattle.sr_model.specs.Graph.{node_count}
use Rattle.sr_encode.specs.Search.{IsSearching}
use Rattle.sr_encode.specs.Serve.{AreOffered, IsLater}
use Rattle.sr_encode.proofs.search.explore.Given as goal

abbrev pub invariant-queue : goal.invariant-queue
invariant-queue l =
    IsSearching l.scene l.met.queue.items l.met.unmet l.i 0
    × AreOffered l.scene l.met.queue.items (length l.met.queue.items) l.served
    × IsLater l.fn.served l.served
    × (l.i ≤ length l.met.queue.items)

abbrev pub decreases-queue : goal.decreases-queue
decreases-queue l = node_count l.scene.net.graph - l.i
