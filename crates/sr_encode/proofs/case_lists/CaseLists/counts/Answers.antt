use Rattle.std.proofs.Common.{ap, ◌∙◌}
use Rattle.sr_model.specs.declared.audit.Counts.{Counts}
use Rattle.sr_encode.proofs.LimitLemmas.{none-deep}
use Rattle.sr_encode.proofs.case_lists.CaseLists.counts.Goals as goal

pub returns-clause-flat : goal.returns-clause-flat
returns-clause-flat c = ap (λ (k : Counts). k.toodeep) (c.self.invariant.2 0) ∙ none-deep 0 c.self.inside.segments.items c.self.inside.outcomes.items c.self.inside.kept.items
