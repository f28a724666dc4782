use Rattle.sr_lanes.specs.Bits.{is_in}
use Rattle.sr_lanes.proofs.WordLemmas.{tells-and}
use Rattle.sr_lanes.proofs.words.NodeBits.and.Goals as goal

pub returns : goal.returns
unfolding is_in
returns c v = tells-and c.args.self.words c.args.other.words v c.args.self.whole c.args.other.whole
