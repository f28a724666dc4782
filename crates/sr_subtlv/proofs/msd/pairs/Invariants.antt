-- the octets behind are the depths, and an even number of octets is left
use Rattle.std.proofs.Common.{◌≡◌, ℕ, ◌+◌, ◌-◌, ◌*◌, ◌++◌, length, drop}
use Rattle.std.specs.List.{flat_map}
use Rattle.sr_subtlv.specs.Msd.{msd_value}
use Rattle.sr_subtlv.proofs.msd.pairs.Given as goal

abbrev pub invariant-loop-at : goal.invariant-loop-at
invariant-loop-at l = record {
  text : l.value ≡ flat_map msd_value l.msds.items ++ drop l.at l.value;
  even : (left : ℕ) × (length l.value ≡ l.at + 2 * left);
}

abbrev pub decreases-loop-at : goal.decreases-loop-at
decreases-loop-at l = length l.value - l.at
