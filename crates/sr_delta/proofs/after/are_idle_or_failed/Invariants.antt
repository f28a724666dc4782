use Rattle.std.proofs.Common.{ℕ, ◌<◌}
use Rattle.sr_delta.specs.Changed.{change_at}
use Rattle.sr_delta.specs.Idle.{IsIdleOrFailed}
use Rattle.sr_delta.proofs.after.are_idle_or_failed.Given as goal

abbrev pub invariant-loop-n : goal.invariant-loop-n
invariant-loop-n l = (k : ℕ) → k < l.n → IsIdleOrFailed l.graph l.case l.cells (change_at l.links k)
