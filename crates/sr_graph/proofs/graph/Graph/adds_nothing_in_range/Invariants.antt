use Rattle.std.proofs.Common.{ℕ, ◌≤◌, ◌<◌}
use Rattle.sr_graph.specs.Failed.{AddsNothing}
use Rattle.sr_graph.proofs.graph.Graph.adds_nothing_in_range.Given as goal

abbrev pub invariant-loop-link : goal.invariant-loop-link
invariant-loop-link l = (n : ℕ) → l.fn.range.first ≤ n → n < l.link → AddsNothing l.self l.protected.0 n
