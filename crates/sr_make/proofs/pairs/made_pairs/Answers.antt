use Rattle.std.proofs.Common.{arith, ap, length, ◌∙◌}
use Rattle.sr_make.proofs.PairLemmas.{length-spans}
use Rattle.sr_make.proofs.pairs.made_pairs.Goals as goal

pub draw_pairs-requires : goal.draw_pairs-requires
draw_pairs-requires c =
    omega (arith, ap length (c.deref.ensures.value ∙ c.in_ok-spans.ensures), length-spans c.from.result, c.from.ensures, c.ranges.nodes.fits)
