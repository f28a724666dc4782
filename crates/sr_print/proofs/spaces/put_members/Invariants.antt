-- the members so far stand behind
use Rattle.std.proofs.Common.{◌≡◌, ◌++◌}
use Rattle.std.specs.List.{filter, range_with_len}
use Rattle.sr_model.specs.Graph.{has}
use Rattle.sr_print.specs.Spaces.{node_words}
use Rattle.sr_print.proofs.spaces.put_members.Given as goal

abbrev pub invariant-loop-node : goal.invariant-loop-node
invariant-loop-node l = l.out.items ≡ l.fn.out.items ++ node_words l.graph (filter (has l.set) (range_with_len 0 l.node))
