use Rattle.std.proofs.Common.{◌≡◌, ℕ, ◌<◌, length, get_or}
use Rattle.sr_graph_checks.proofs.tests.drawn.all_nodes.Given as goal

abbrev pub invariant-loop-node : goal.invariant-loop-node
invariant-loop-node l = record {
  long : length l.nodes.items ≡ l.node;
  each : (k : ℕ) → k < l.node → get_or l.nodes.items k (record { 0 = k }) ≡ record { 0 = k };
}
