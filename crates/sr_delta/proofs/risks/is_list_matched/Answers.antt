use Rattle.sr_graph.specs.Members.{number_at}
use Rattle.sr_delta.specs.Pairs.{IsMatched}
use Rattle.sr_delta.proofs.PairLemmas.{each-up}
use Rattle.sr_delta.proofs.risks.is_list_matched.Goals as goal

pub loop-i-preserved : goal.loop-i-preserved
loop-i-preserved c =
    each-up
    (λ k. IsMatched c.args.graph.now c.args.case c.args.other.now c.args.there (number_at c.args.links.now k))
    c.loop-i.i
    c.loop-i.invariant
    (c.is_matched.ensures.0 (let not = c.if-not-is_matched.false in cc))
