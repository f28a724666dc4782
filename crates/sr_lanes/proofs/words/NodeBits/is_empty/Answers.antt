use Rattle.std.proofs.Common.{refl}
use Rattle.std.proofs.lemmas.Bool.{eqb-true}
use Rattle.sr_lanes.specs.Bits.{is_in}
use Rattle.sr_lanes.proofs.WordLemmas.{nothing-told, words-joined, words-empty, joined}
use Rattle.sr_lanes.proofs.words.NodeBits.is_empty.Goals as goal

pub returns : goal.returns
unfolding is_in
returns c = (
  (λ yes. nothing-told c.args.self.words (words-joined c.args.self.words c.args.self.whole (eqb-true (joined c.args.self.words) 0 yes))),
  (λ silent.
      let none = words-empty c.args.self.words c.args.self.whole silent in
      rw (none 0, none 1, none 2, none 3) refl),
)
