use Rattle.sr_graph.specs.Members.{IsWidened}
use Rattle.sr_graph.proofs.FailedLemmas.{Sharing}
use Rattle.sr_graph.proofs.graph.Graph.add_sharing_listed.Given as goal

abbrev pub invariant-loop-link : goal.invariant-loop-link
invariant-loop-link l = IsWidened l.fn.set (Sharing l.self l.protected.0 l.links l.link-index) l.set
