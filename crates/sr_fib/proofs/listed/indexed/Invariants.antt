use Rattle.sr_fib.proofs.ListedLemmas.{AreIndexed}
use Rattle.sr_fib.proofs.listed.indexed.Given as goal

abbrev pub invariant-loop-place : goal.invariant-loop-place
invariant-loop-place l = AreIndexed l.net l.list.items l.place
