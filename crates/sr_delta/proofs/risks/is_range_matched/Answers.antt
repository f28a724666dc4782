use Rattle.sr_delta.specs.Pairs.{IsMatched}
use Rattle.sr_delta.proofs.PairLemmas.{each-up_from}
use Rattle.sr_delta.proofs.risks.is_range_matched.Goals as goal

pub loop-link-preserved : goal.loop-link-preserved
loop-link-preserved c =
    each-up_from
    (λ k. IsMatched c.args.graph.now c.args.case c.args.other.now c.args.there k)
    c.args.range.first
    c.loop-link.link
    c.loop-link.invariant
    (c.is_matched.ensures.0 (let not = c.if-not-is_matched.false in cc))
