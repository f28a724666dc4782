use Rattle.sr_model.specs.Space.{InExtendedP}
use Rattle.sr_spaces.proofs.SpaceLemmas.{AreTests}
use Rattle.sr_spaces.proofs.extended.extended_p.Given as goal

abbrev pub invariant-loop-v : goal.invariant-loop-v
invariant-loop-v l = AreTests (InExtendedP l.graph l.x l.s.0) l.v l.tests.items
