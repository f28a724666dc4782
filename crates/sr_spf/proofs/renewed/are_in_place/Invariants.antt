use Rattle.sr_spf.proofs.RenewedLemmas.{AreInPlaceBelow}
use Rattle.sr_spf.proofs.renewed.are_in_place.Given as goal

abbrev pub invariant-loop-place : goal.invariant-loop-place
invariant-loop-place l = AreInPlaceBelow l.links l.place
