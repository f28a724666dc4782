use Rattle.sr_adjprot.specs.declared.answer.AdjAnswer.TheVariants.{Steer}
use Rattle.sr_adjprot.proofs.AnswerLemmas.{replaced-as}
use Rattle.sr_adjprot.proofs.replaced.steered.Goals as goal

pub returns : goal.returns
returns c =
    let from = rw c.graph.ensures.value at c.edge-edge.ensures.from in
    let to = rw c.graph.ensures.value at c.edge-edge.ensures.to in
    replaced-as c.args.net.now c.args.link (Steer c.node_label-label.result c.in-Some.cost)
    (λ tests marked. (
      record { marked = marked; index = c.requires.index },
      record {
        aside = c.requires.aside;
        label_is = rw (← from, ← to) c.node_label-label.ensures;
        distance = rw (← from, ← to) (c.in-Some.ensures.distance c.args.net.now.graph c.requires.trees);
      },
    ))
