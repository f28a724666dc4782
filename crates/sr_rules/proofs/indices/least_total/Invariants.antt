use Rattle.sr_rules.specs.RuleSurvey.{nodes_with}
use Rattle.sr_rules.proofs.OutsideLemmas.{IsLeastBelow}
use Rattle.sr_rules.proofs.indices.least_total.Given as goal

abbrev pub invariant-loop-place : goal.invariant-loop-place
invariant-loop-place l = IsLeastBelow (nodes_with l.ranges) l.place l.least
