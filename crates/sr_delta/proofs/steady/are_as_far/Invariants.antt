use Rattle.std.proofs.Common.{◌≡◌, ◌⊎◌, ℕ, true, false, Some}
use Rattle.std.specs.Prelude.{slice_get}
use Rattle.sr_lanes.specs.declared.words.NodeBits.{NodeBits}
use Rattle.sr_lanes.specs.Bits.{is_in, member_count}
use Rattle.sr_delta.proofs.steady.are_as_far.Given as goal

abbrev pub invariant-left : goal.invariant-left
invariant-left l = ((u : ℕ) → is_in l.left u ≡ true → is_in l.initial.left u ≡ true)
    × ((u : ℕ) (set : NodeBits) → is_in l.initial.left u ≡ true → slice_get l.moved u ≡ Some set → (is_in l.left u ≡ true) ⊎ (is_in set l.to.0 ≡ false))

abbrev pub decreases-left : goal.decreases-left
decreases-left l = member_count l.left
