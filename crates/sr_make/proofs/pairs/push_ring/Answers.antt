use Rattle.std.proofs.Common.{◌+◌, ◌∷◌, ◌++◌, [], ap, ◌∙◌}
use Rattle.sr_make.specs.Pairs.{ring_span}
use Rattle.sr_make.proofs.PairLemmas.{map-next}
use Rattle.sr_make.proofs.pairs.push_ring.Goals as goal

pub loop-before-preserved : goal.loop-before-preserved
loop-before-preserved c =
    c.in_ok-push.ensures.items
    ∙ ap (λ l. l ++ ring_span c.args.nodes (c.loop-before.before + 1) ∷ []) c.loop-before.invariant
    ∙ map-next (ring_span c.args.nodes) c.loop-before.before c.args.spans.now.items
