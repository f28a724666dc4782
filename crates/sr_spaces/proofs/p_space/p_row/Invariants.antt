use Rattle.sr_model.specs.Space.{InP}
use Rattle.sr_spaces.proofs.SpaceLemmas.{AreTests}
use Rattle.sr_spaces.proofs.p_space.p_row.Given as goal

abbrev pub invariant-loop-v : goal.invariant-loop-v
invariant-loop-v l = AreTests (InP l.graph l.x l.u.0) l.v l.tests.items
