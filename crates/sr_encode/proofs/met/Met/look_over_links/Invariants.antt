use Rattle.std.proofs.Common.{◌≤◌, ◌+◌}
use Rattle.sr_model.specs.Graph.{node_count}
use Rattle.sr_encode.specs.Waypoints.{Extends}
use Rattle.sr_encode.specs.Search.{LooksFrom}
use Rattle.sr_encode.proofs.met.Met.look_over_links.Given as goal

abbrev pub invariant-loop-link : goal.invariant-loop-link
invariant-loop-link l =
    LooksFrom l.scene l.self l.i (node_count l.scene.net.graph + l.link)
    × Extends l.fn.self.queue.items l.self.queue.items
    × (l.link ≤ l.end)
    × (l.first ≤ l.link)
