use Rattle.std.proofs.Common.{◌<◌}
use Rattle.sr_model.specs.Graph.{node_count, head}
use Rattle.sr_repair.proofs.StackLemmas.{AreLabelled}
use Rattle.sr_repair.proofs.stack.stack.Given as goal

abbrev pub invariant-loop-segment : goal.invariant-loop-segment
invariant-loop-segment l =
    AreLabelled l.net (head l.net.graph l.fn.first.0) l.segments l.d.0 l.segment-index l.at.0 l.labels.items
    × (l.at.0 < node_count l.net.graph)
