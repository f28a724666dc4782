use Rattle.std.proofs.Common.{ℕ, ◌<◌}
use Rattle.sr_graph.specs.Failed.{AddsNothing}
use Rattle.sr_graph.specs.Members.{number_at}
use Rattle.sr_graph.proofs.graph.Graph.adds_nothing_listed.Given as goal

abbrev pub invariant-loop-link : goal.invariant-loop-link
invariant-loop-link l = (i : ℕ) → i < l.link-index → AddsNothing l.self l.protected.0 (number_at l.links i)
