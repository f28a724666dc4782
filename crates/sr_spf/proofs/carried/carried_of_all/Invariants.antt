use Rattle.sr_spf.specs.Carried.{AreCarried}
use Rattle.sr_spf.proofs.carried.carried_of_all.Given as goal

abbrev pub invariant-loop-link : goal.invariant-loop-link
invariant-loop-link l = AreCarried l.graph l.sets.items l.link
