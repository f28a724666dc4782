use Rattle.std.proofs.Common.{arith, below_more}
use Rattle.sr_model.specs.Rule.{node_at}
use Rattle.sr_laws.proofs.Ranges.{label-none}
use Rattle.sr_labels.proofs.IndexLists.{labelled}
use Rattle.sr_labels.proofs.indices.first_without.Goals as goal

pub returns-then-size_at-index : goal.returns-then-size_at-index
returns-then-size_at-index c = (omega arith, label-none (node_at c.args.nodes.now c.loop-node.node).srgb c.args.index (omega arith), c.loop-node.invariant)

pub loop-node-preserved : goal.loop-node-preserved
loop-node-preserved c = below_more _ _ c.loop-node.invariant (labelled (node_at c.args.nodes.now c.loop-node.node).srgb c.args.index (omega arith))
