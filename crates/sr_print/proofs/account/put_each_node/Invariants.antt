-- the lines of the nodes so far stand behind
use Rattle.std.proofs.Common.{◌≡◌, ◌++◌}
use Rattle.sr_print.specs.Account.{node_lines}
use Rattle.sr_print.proofs.account.put_each_node.Given as goal

abbrev pub invariant-loop-node : goal.invariant-loop-node
invariant-loop-node l = l.out.items ≡ l.fn.out.items ++ node_lines l.net l.node
