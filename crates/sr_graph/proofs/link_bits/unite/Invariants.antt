use Rattle.sr_graph.proofs.BitsLemmas.{AreUnited}
use Rattle.sr_graph.proofs.link_bits.unite.Given as goal

abbrev pub invariant-loop-place : goal.invariant-loop-place
invariant-loop-place l = AreUnited l.fn.words l.others l.words l.place
