use Rattle.sr_spf.proofs.SharedLemmas.{AreRenewedUpTo}
use Rattle.sr_spf.proofs.shared.Shared.renewed.Given as goal

abbrev pub invariant-loop-one : goal.invariant-loop-one
invariant-loop-one g l = AreRenewedUpTo l.old l.fn.found.items l.one-iterator.rest.items l.shared
