use Rattle.std.proofs.Common.{◌<◌}
use Rattle.sr_graph.specs.Members.{IsInRange, IsWidened}
use Rattle.sr_graph.proofs.link_set.LinkSet.add_range.Given as goal

abbrev pub invariant-loop-link : goal.invariant-loop-link
invariant-loop-link l = IsWidened l.fn.self (λ n. IsInRange l.fn.range.first l.fn.range.end n × (n < l.link)) l.self
