use Rattle.sr_labels.proofs.Clashes.{ArePassed}
use Rattle.sr_rules.specs.RuleSurvey.{nodes_with}
use Rattle.sr_rules.proofs.adjacencies.first_in_order.Given as goal

abbrev pub invariant-loop-place : goal.invariant-loop-place
invariant-loop-place l = ArePassed (nodes_with l.ranges) l.list l.place
