use Rattle.std.proofs.Common.{subst}
use Rattle.sr_encode.specs.Placed.{listed_from}
use Rattle.sr_encode.specs.Answered.{NoAnswer}
use Rattle.sr_encode.proofs.LimitLemmas.{limited-none}
use Rattle.sr_encode.proofs.answers.CaseAnswers.answer_for.Goals as goal

pub returns-in-None : goal.returns-in-None
returns-in-None c =
    let none : NoAnswer (listed_from c.self.inside.start.0 c.self.inside.lists.now) c.args.destination.0 = c.in-None.ensures c.self.inside.start.0 in
    subst (λ list. NoAnswer list c.args.destination.0) c.self.view_is (limited-none c.self.inside.limit (listed_from c.self.inside.start.0 c.self.inside.lists.now) c.args.destination.0 none)
