use Rattle.sr_fib.proofs.ListedLemmas.{AreLabelled}
use Rattle.sr_fib.proofs.listed.labelled.Given as goal

abbrev pub invariant-loop-place : goal.invariant-loop-place
invariant-loop-place l = AreLabelled l.net l.list.items l.first l.place
