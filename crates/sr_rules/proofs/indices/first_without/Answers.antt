use Rattle.std.proofs.Common.{arith, below_more}
use Rattle.std.proofs.lemmas.List.{length-map}
use Rattle.sr_laws.proofs.Ranges.{label-none}
use Rattle.sr_model.specs.Rule.{node_at}
use Rattle.sr_rules.specs.RuleSurvey.{with_ranges, nodes_with}
use Rattle.sr_labels.proofs.IndexLists.{labelled}
use Rattle.sr_rules.proofs.indices.first_without.Goals as goal

pub returns-then-total_at-index-clause-first : goal.returns-then-total_at-index-clause-first
returns-then-total_at-index-clause-first c = (
  omega (arith, length-map c.args.ranges.now with_ranges),
  label-none (node_at (nodes_with c.args.ranges.now) c.loop-place.place).srgb c.args.index (omega (arith, c.total_at.ensures, c.ranges.index.fits)),
  c.loop-place.invariant,
)

pub loop-place-preserved : goal.loop-place-preserved
loop-place-preserved c = below_more _ _ c.loop-place.invariant (labelled (node_at (nodes_with c.args.ranges.now) c.loop-place.place).srgb c.args.index (omega (arith, c.total_at.ensures)))

pub returns-clause-first : goal.returns-clause-first
returns-clause-first c = λ v lt. c.loop-place.invariant v (omega (arith, length-map c.args.ranges.now with_ranges))
