use Rattle.std.proofs.Common.{ℕ, ◌+◌}
use Rattle.sr_lanes.specs.Passes.{is_tight}
use Rattle.sr_lanes.proofs.AmongLemmas.{AreBitsTested}
use Rattle.sr_lanes.proofs.passes.tight_in_word.Given as goal

abbrev pub invariant-left : goal.invariant-left
invariant-left l = AreBitsTested (λ (i : ℕ). is_tight l.row l.cost l.base (l.from + i)) l.fn.among l.left l.found

abbrev pub decreases-left : goal.decreases-left
decreases-left l = l.left
