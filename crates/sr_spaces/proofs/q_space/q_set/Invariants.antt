use Rattle.sr_model.specs.Space.{InQ}
use Rattle.sr_spaces.proofs.SpaceLemmas.{AreTests}
use Rattle.sr_spaces.proofs.q_space.q_set.Given as goal

abbrev pub invariant-loop-u : goal.invariant-loop-u
invariant-loop-u l = AreTests (InQ l.graph l.x l.d.0) l.u l.tests.items
