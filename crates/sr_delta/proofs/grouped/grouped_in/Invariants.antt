use Rattle.std.proofs.Common.{◌≡◌, ℕ, ◌<◌, true}
use Rattle.sr_lanes.specs.Bits.{is_in}
use Rattle.sr_model.specs.Case.{Touches}
use Rattle.sr_delta.specs.Grouped.{IsGroupedAlike}
use Rattle.sr_delta.proofs.grouped.grouped_in.Given as goal

abbrev pub invariant-loop-l : goal.invariant-loop-l
invariant-loop-l l = record {
  within : (v : ℕ) → is_in l.set v ≡ true → is_in l.fn.among v ≡ true;
  grouped : (v : ℕ) → is_in l.set v ≡ true → (k : ℕ) → k < l.l → Touches l.graph k v → IsGroupedAlike l.graph l.other k;
}
