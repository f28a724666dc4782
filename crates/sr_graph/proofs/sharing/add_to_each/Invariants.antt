use Rattle.sr_graph.proofs.SharingLemmas.{AreAdded}
use Rattle.sr_graph.proofs.sharing.add_to_each.Given as goal

abbrev pub invariant-loop-place : goal.invariant-loop-place
invariant-loop-place l = AreAdded l.list l.links l.start l.place l.fn.sets l.sets
