-- the labels of the segments so far stand behind, and the packet is at node `at`
use Rattle.std.proofs.Common.{◌≡◌, ℕ, ◌<◌, List, ◌++◌}
use Rattle.std.specs.List.{flat_map}
use Rattle.sr_model.specs.Graph.{node_count}
use Rattle.sr_repair.proofs.StackLemmas.{AreLabelled}
use Rattle.sr_print.specs.Repairs.{label_word}
use Rattle.sr_print.proofs.answers.put_stack.Given as goal

abbrev pub invariant-loop-segment : goal.invariant-loop-segment
invariant-loop-segment l =
    ((labels : List ℕ) × AreLabelled l.net l.fn.start.0 l.segments l.d.0 l.segment-index l.at.0 labels × (l.out.items ≡ l.fn.out.items ++ flat_map label_word labels))
    × (l.at.0 < node_count l.net.graph)
