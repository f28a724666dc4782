use Rattle.sr_delta.specs.Changed.{AreChangesAmong, IsOldOrBelow}
use Rattle.sr_delta.proofs.changed.with_arisen.Given as goal

abbrev pub invariant-loop-k : goal.invariant-loop-k
invariant-loop-k l = AreChangesAmong l.old l.new (IsOldOrBelow l.old l.new l.k) l.list.items
