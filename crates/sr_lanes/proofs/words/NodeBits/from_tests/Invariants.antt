use Rattle.std.proofs.Common.{◌≡◌, ℕ, ◌&&◌, false, nat_lt, slice_index_or}
use Rattle.sr_lanes.specs.Bits.{is_in}
use Rattle.sr_lanes.proofs.words.NodeBits.from_tests.Given as goal

abbrev pub invariant-loop-v : goal.invariant-loop-v
invariant-loop-v l = (i : ℕ) → is_in l.set i ≡ (nat_lt i l.v && slice_index_or l.tests i false)
