use Rattle.std.proofs.Common.{take, drop}
use Rattle.std.proofs.lemmas.Simd.{length-chunk}
use Rattle.sr_lanes.proofs.EqualLemmas.{equal_lanes}
use Rattle.sr_lanes.proofs.equal.eight_equal.Goals as goal

pub returns : goal.returns
returns c = equal_lanes (take 8 (drop c.args.at c.args.a.now)) (take 8 (drop c.args.at c.args.b.now)) (length-chunk c.args.at 8 c.args.a.now c.requires.a) (length-chunk c.args.at 8 c.args.b.now c.requires.b)
