use Rattle.std.proofs.Common.{◌<◌}
use Rattle.sr_model.specs.Case.{ShareGroup}
use Rattle.sr_graph.specs.Members.{IsInRange, IsWidened}
use Rattle.sr_graph.proofs.graph.Graph.add_sharing_in_range.Given as goal

abbrev pub invariant-loop-link : goal.invariant-loop-link
invariant-loop-link l = IsWidened l.fn.set (λ n. IsInRange l.fn.range.first l.fn.range.end n × (n < l.link) × ShareGroup l.self n l.protected.0) l.set
