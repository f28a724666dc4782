use Rattle.sr_lanes.specs.Bits.{is_in}
use Rattle.sr_lanes.proofs.WordLemmas.{tells-or, words-or}
use Rattle.sr_lanes.proofs.words.NodeBits.or.Goals as goal

pub returns : goal.returns
unfolding is_in
returns c v = tells-or c.args.self.words c.args.other.words v c.args.self.whole c.args.other.whole

pub invariant_of-result : goal.invariant_of-result
invariant_of-result c = record { whole = words-or c.args.self.words c.args.other.words c.args.self.whole c.args.other.whole }
