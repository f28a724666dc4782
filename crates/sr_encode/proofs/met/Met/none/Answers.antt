use Rattle.std.proofs.Common.{ap, ◌∙◌}
use Rattle.std.specs.Prelude.{nat_lt}
use Rattle.sr_model.specs.Graph.{node_count}
use Rattle.sr_encode.proofs.QueueLemmas.{starting-empty}
use Rattle.sr_encode.proofs.met.Met.none.Goals as goal

pub returns : goal.returns
returns c =
    rw c.in_ok-with_capacity.ensures.items
    (starting-empty c.args.scene.now c.below.result (λ v. c.below.ensures v ∙ ap (λ count. nat_lt v count) (c.node_count-count.ensures.count ∙ ap (λ g. node_count g) c.graph.ensures.value)))
