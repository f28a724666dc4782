use Rattle.std.proofs.Common.{subst}
use Rattle.std.specs.Arc.{arc_value}
use Rattle.sr_model.specs.Label.{Net}
use Rattle.sr_repair.specs.Answers.{IsAnswered}
use Rattle.sr_repair.proofs.KeptLemmas.{answers-there}
use Rattle.sr_repair.proofs.computed.Computed.is_answered.Goals as goal

pub returns : goal.returns
returns c = subst (λ (n : Net). IsAnswered n) c.self.view_is (answers-there c.self.inside.net c.graph-graph.ensures.accepted.graph (arc_value c.self.inside.shared).found.items c.self.invariant.2)
