use Rattle.sr_delta.specs.Changed.{AreChangesAmong, IsKeyBelow}
use Rattle.sr_delta.proofs.changed.changed_old.Given as goal

abbrev pub invariant-loop-l : goal.invariant-loop-l
invariant-loop-l l = AreChangesAmong l.old l.new (IsKeyBelow l.old l.l) l.list.items
