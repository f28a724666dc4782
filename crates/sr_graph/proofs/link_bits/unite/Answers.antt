use Rattle.std.proofs.Common.{arith}
use Rattle.sr_graph.proofs.BitsLemmas.{united-all}
use Rattle.sr_graph.proofs.link_bits.unite.Goals as goal

pub returns : goal.returns
returns c = united-all c.args.words.now c.args.others.now c.loop-place.words c.loop-place.place (omega arith) c.loop-place.invariant
