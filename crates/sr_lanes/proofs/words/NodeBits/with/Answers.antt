use Rattle.sr_lanes.specs.Bits.{is_in}
use Rattle.sr_lanes.proofs.WordLemmas.{words-with, tells-with}
use Rattle.sr_lanes.proofs.words.NodeBits.with.Goals as goal

pub invariant_of-result : goal.invariant_of-result
invariant_of-result c = record { whole = words-with c.args.self.words c.args.node c.args.self.whole c.requires }

pub returns : goal.returns
unfolding is_in
returns c v = tells-with c.args.self.words c.args.node c.args.self.whole c.requires v
