use Rattle.std.proofs.Common.{ℕ, ◌<◌, ◌≢◌, None}
use Rattle.sr_model.specs.Label.{label_of}
use Rattle.sr_model.specs.Rule.{node_at}
use Rattle.sr_rules.specs.RuleSurvey.{nodes_with}
use Rattle.sr_rules.proofs.indices.first_without.Given as goal

abbrev pub invariant-loop-place : goal.invariant-loop-place
invariant-loop-place l = (w : ℕ) → w < l.place → label_of (node_at (nodes_with l.ranges) w).srgb l.index ≢ None
