-- the numbers behind, and whole ones left
use Rattle.std.proofs.Common.{◌≡◌, ℕ, ◌+◌, ◌-◌, ◌*◌, length}
use Rattle.sr_wire.proofs.NumberLemmas.{NumbersSoFar}
use Rattle.sr_wire.proofs.numbers.read_numbers.Given as goal

abbrev pub invariant-loop-at : goal.invariant-loop-at
invariant-loop-at l = record {
  numbers : NumbersSoFar l.value l.from l.at l.numbers;
  whole : (left : ℕ) × (length l.value ≡ l.at + 4 * left);
}

abbrev pub decreases-loop-at : goal.decreases-loop-at
decreases-loop-at l = length l.value - l.at
