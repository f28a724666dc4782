use Rattle.std.proofs.Common.{◌≡◌, ℕ, ◌+◌, ◌*◌, ◌%◌, ◌^◌, bit_or, subst, arith}
use Rattle.sr_lanes.specs.Tests.{AreBitsOf}
use Rattle.sr_lanes.proofs.RunLemmas.{bits-more}
use Rattle.sr_lanes.proofs.place_test.word_of.Goals as goal

pub loop-group-preserved : goal.loop-group-preserved
loop-group-preserved g c =
    let test = g.T.PlaceTest.test c.args.test.now in
    let at : ℕ = 8 * c.loop-group.group in
    let next : at + 8 ≡ 8 * (c.loop-group.group + 1) = omega arith in
    let word = bit_or c.loop-group.word (c.at_eight.result * 2 ^ at % 2 ^ 64) in
    subst (λ (n : ℕ). AreBitsOf test c.args.from n word) next (bits-more test c.args.from at c.loop-group.word c.at_eight.result c.loop-group.invariant c.at_eight.ensures (omega arith))
