use Rattle.std.proofs.lemmas.Result.{IfOk-weaker}
use Rattle.sr_adjprot.proofs.AnswerLemmas.{moved-answer}
use Rattle.sr_adjprot.proofs.replaced.adj_repair.Goals as goal

pub returns-then-eligible-link-clause-answer : goal.returns-then-eligible-link-clause-answer
returns-then-eligible-link-clause-answer c =
    IfOk-weaker c.replaced.result _ _
    (λ answer is. moved-answer c.args.version.now.net is.0 c.args.eligible.now c.args.link answer is.1 c.if-eligible-link.true is.2)
    c.replaced.ensures.answer
