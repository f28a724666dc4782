use Rattle.std.proofs.Common.{subst}
use Rattle.sr_encode.specs.Placed.{listed_from}
use Rattle.sr_encode.specs.Codes.{AreCodes}
use Rattle.sr_encode.proofs.LimitLemmas.{codes-limited}
use Rattle.sr_encode.proofs.answers.CaseAnswers.codes.Goals as goal

pub returns : goal.returns
returns c = subst (λ list. AreCodes list c.codes.result) c.self.view_is (codes-limited c.self.inside.limit (listed_from c.self.inside.start.0 c.self.inside.lists.now) c.codes.result (c.codes.ensures c.self.inside.start.0))
