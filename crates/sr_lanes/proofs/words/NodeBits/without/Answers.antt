use Rattle.sr_lanes.specs.Bits.{is_in}
use Rattle.sr_lanes.proofs.WordLemmas.{tells-without}
use Rattle.sr_lanes.proofs.words.NodeBits.without.Goals as goal

pub returns : goal.returns
unfolding is_in
returns c v = tells-without c.args.self.words c.args.node c.args.self.whole c.requires v
