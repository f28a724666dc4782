use Rattle.std.proofs.Common.{◌≡◌, ◌++◌, drop}
use Rattle.std.specs.Prelude.{filter}
use Rattle.sr_domain.specs.Nodes.{has_overload_bit}
use Rattle.sr_domain.proofs.overload.overloaded_of.Given as goal

abbrev pub invariant-loop-node : goal.invariant-loop-node
invariant-loop-node l = l.out.items ++ filter (has_overload_bit l.facts) (drop l.node-index l.nodes) ≡ filter (has_overload_bit l.facts) l.nodes
