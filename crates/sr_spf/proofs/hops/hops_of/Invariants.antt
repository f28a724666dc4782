use Rattle.sr_spf.proofs.HopsLemmas.{AreHopsBelow}
use Rattle.sr_spf.proofs.hops.hops_of.Given as goal

abbrev pub invariant-loop-to : goal.invariant-loop-to
invariant-loop-to l = AreHopsBelow l.graph l.fn.node.0 l.to l.starts.items l.links.items
