use Rattle.std.proofs.Common.{sym}
use Rattle.sr_lanes.specs.Bits.{is_in, member_count}
use Rattle.sr_lanes.proofs.SizeLemmas.{words-counted}
use Rattle.sr_lanes.proofs.words.NodeBits.count.Goals as goal

pub returns : goal.returns
unfolding is_in member_count
returns c = sym (words-counted c.args.self.words c.args.self.whole)
