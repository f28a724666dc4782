use Rattle.sr_lanes.specs.Bits.{is_in}
use Rattle.sr_lanes.proofs.WordLemmas.{tells-masked, tells-without}
use Rattle.sr_lanes.proofs.words.NodeBits.remove.Goals as goal

pub returns-clause-was : goal.returns-clause-was
unfolding is_in
returns-clause-was c = tells-masked c.args.self.now.words c.args.node

pub returns-clause-left : goal.returns-clause-left
unfolding is_in
returns-clause-left c v = tells-without c.args.self.now.words c.args.node c.args.self.now.whole c.requires v
