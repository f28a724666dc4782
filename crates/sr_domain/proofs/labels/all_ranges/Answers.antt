use Rattle.std.proofs.Common.{arith}
use Rattle.sr_domain.proofs.LabelsLemmas.{srgb-lacks, ranges-kept}
use Rattle.sr_domain.proofs.labels.all_ranges.Goals as goal

pub returns-in-Ok-None-clause-fault : goal.returns-in-Ok-None-clause-fault
returns-in-Ok-None-clause-fault c = srgb-lacks c.args.facts.now c.args.nodes.now c.loop-node.node-index c.node-item.result c.loop-node.out.items c.requires.nodes c.requires.ascending (omega arith) c.node-item.is c.loop-node.invariant (rw c.in-Ok-None.field-0-is at c.in-Ok-None.ensures)

pub returns-clause-kept : goal.returns-clause-kept
returns-clause-kept c = ranges-kept c.args.facts.now c.args.nodes.now c.loop-node.node-index c.loop-node.out.items c.requires.nodes (omega arith) c.loop-node.invariant
