use Rattle.sr_lanes.specs.Bits.{is_in}
use Rattle.sr_lanes.proofs.WordLemmas.{tells-has}
use Rattle.sr_lanes.proofs.words.NodeBits.has.Goals as goal

pub returns : goal.returns
unfolding is_in
returns c = tells-has c.args.self.words c.args.node
