use Rattle.sr_delta.specs.Partners.{AllBelow}
use Rattle.sr_delta.proofs.partners.place_from.Given as goal

abbrev pub invariant-loop-i : goal.invariant-loop-i
invariant-loop-i l = AllBelow l.graph l.i l.key
