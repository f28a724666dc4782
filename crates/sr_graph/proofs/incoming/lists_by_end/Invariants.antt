use Rattle.sr_graph.specs.Ranges.{AreListedByEnd}
use Rattle.sr_graph.proofs.incoming.lists_by_end.Given as goal

abbrev pub invariant-loop-link : goal.invariant-loop-link
invariant-loop-link l = AreListedByEnd l.edges l.link l.nodes l.lists.items
