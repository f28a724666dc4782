use Rattle.std.proofs.Common.{◌≡◌, ℕ, ◌-◌, ◌^◌, min, arith}
use Rattle.std.proofs.lemmas.Bool.{le-ltb}
use lib.Dec.{ltb}
use Rattle.sr_lanes.specs.Bits.{is_in}
use Rattle.sr_lanes.specs.Tests.{AreBitsOf}
use Rattle.sr_lanes.proofs.RunLemmas.{tells-words, ones-word}
use Rattle.sr_lanes.proofs.words.NodeBits.below.Goals as goal

of_ones : (count from left word : ℕ) → left ≡ count - from → word ≡ 2 ^ min left 64 - 1 → AreBitsOf (λ v. ltb v count) from 64 word
of_ones count from left word is made = rw (made, is) (ones-word count from)

pub returns : goal.returns
unfolding is_in
returns c =
    let n = c.args.count in
    tells-words (λ v. ltb v n) c.ones.result c.ones-2.result c.ones-3.result c.ones-4.result
    (of_ones n 0 n c.ones.result (omega arith) c.ones.ensures)
    (of_ones n 64 c.saturating_sub.result c.ones-2.result (omega arith) c.ones-2.ensures)
    (of_ones n 128 c.saturating_sub-2.result c.ones-3.result (omega arith) c.ones-3.ensures)
    (of_ones n 192 c.saturating_sub-3.result c.ones-4.result (omega arith) c.ones-4.ensures)
    (λ v le. le-ltb v n (omega arith))
