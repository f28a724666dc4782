use Rattle.std.proofs.Common.{ℕ, ◌<◌}
use Rattle.sr_delta.specs.Changed.{change_at}
use Rattle.sr_delta.specs.Idle.{IsIdleChange}
use Rattle.sr_delta.proofs.stays.are_all_idle.Given as goal

abbrev pub invariant-loop-n : goal.invariant-loop-n
invariant-loop-n l = (k : ℕ) → k < l.n → IsIdleChange l.cells (change_at l.links k)
