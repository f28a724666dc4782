use Rattle.sr_graph.specs.Holdings.{AreHoldings}
use Rattle.sr_graph.proofs.sharing.holdings.Given as goal

abbrev pub invariant-loop-link : goal.invariant-loop-link
invariant-loop-link l = AreHoldings l.groups l.link l.list.items
