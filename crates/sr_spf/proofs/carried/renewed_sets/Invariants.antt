use Rattle.sr_spf.specs.Carried.{AreCarried}
use Rattle.sr_spf.proofs.carried.renewed_sets.Given as goal

abbrev pub invariant-loop-link : goal.invariant-loop-link
invariant-loop-link l = AreCarried l.graph l.sets.items l.link
