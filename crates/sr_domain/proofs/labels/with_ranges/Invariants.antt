use Rattle.sr_domain.proofs.LabelsLemmas.{LabelsMade}
use Rattle.sr_domain.proofs.labels.with_ranges.Given as goal

abbrev pub invariant-loop-ranges : goal.invariant-loop-ranges
invariant-loop-ranges l = LabelsMade l.facts l.nodes l.out.items l.ranges-iterator.rest.items
