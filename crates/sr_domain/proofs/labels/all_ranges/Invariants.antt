use Rattle.sr_domain.proofs.LabelsLemmas.{RangesMade}
use Rattle.sr_domain.proofs.labels.all_ranges.Given as goal

abbrev pub invariant-loop-node : goal.invariant-loop-node
invariant-loop-node l = RangesMade l.facts l.nodes l.node-index l.out.items
