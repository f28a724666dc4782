use Rattle.std.proofs.Common.{arith}
use Rattle.sr_lanes.specs.Bits.{is_in}
use Rattle.sr_lanes.proofs.WordLemmas.{least-told, nothing-told, words-beyond}
use Rattle.sr_lanes.proofs.words.NodeBits.first.Goals as goal

pub returns-then-word-ne0 : goal.returns-then-word-ne0
unfolding is_in
returns-then-word-ne0 c =
    let told = least-told c.args.self.words c.loop-k.k c.loop-k.invariant c.args.self.whole c.if-word-ne0.true in
    let lt = told.0 in
    record {
      within = omega arith;
      member = told.1;
      least = told.2;
    }

pub returns : goal.returns
unfolding is_in
returns c = nothing-told c.args.self.words (words-beyond c.args.self.words c.args.self.whole (λ k lt. c.loop-k.invariant k (omega arith)))
