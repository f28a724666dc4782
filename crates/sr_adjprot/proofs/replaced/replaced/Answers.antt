use Rattle.std.proofs.Common.{sym, ap, ◌∙◌}
use Rattle.std.proofs.lemmas.Result.{IfOk-weaker}
use Rattle.sr_adjprot.specs.declared.answer.AdjAnswer.TheVariants.{NoIndex}
use Rattle.sr_model.specs.Label.{Labels}
use Rattle.sr_adjprot.proofs.AnswerLemmas.{replaced-as, adj-delivers}
use Rattle.sr_adjprot.proofs.replaced.replaced.Goals as goal

pub returns-in-None-clause-answer : goal.returns-in-None-clause-answer
returns-in-None-clause-answer c =
    let to = rw (c.graph.ensures.value, c.net-net.ensures.value) at c.edge.ensures.to in
    let labels = rw (c.net-net.ensures.value, to) at c.labels.ensures.value in
    let none = sym (ap (λ (x : Labels). x.index) labels) ∙ (sym c.index.ensures ∙ c.in-None.is) in
    replaced-as c.args.version.now.net c.args.link NoIndex (λ tests marked. (marked, none))

pub returns-in-Some-clause-delivers : goal.returns-in-Some-clause-delivers
returns-in-Some-clause-delivers c =
    IfOk-weaker c.led.result _ _
    (λ answer is. adj-delivers c.args.version.now.net c.net-net.ensures.net is.0 c.args.link answer c.requires is.2)
    c.led.ensures
