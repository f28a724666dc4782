use Rattle.sr_lanes.specs.Bits.{is_in}
use Rattle.sr_lanes.proofs.WordLemmas.{tells-and_not}
use Rattle.sr_lanes.proofs.words.NodeBits.and_not.Goals as goal

pub returns : goal.returns
unfolding is_in
returns c v = tells-and_not c.args.self.words c.args.other.words v c.args.self.whole c.args.other.whole
