use Rattle.sr_audit.proofs.CountLemmas.{AreFirstCounts}
use Rattle.sr_audit.proofs.counting.counts.Given as goal

-- the counts of the cases so far
abbrev pub invariant-loop-place : goal.invariant-loop-place
invariant-loop-place l = AreFirstCounts l.fn.version.net l.place l.so_far
