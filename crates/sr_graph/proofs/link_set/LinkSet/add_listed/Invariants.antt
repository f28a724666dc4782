use Rattle.std.proofs.Common.{◌≡◌, ℕ, ◌<◌}
use Rattle.sr_graph.specs.Members.{number_at, IsWidened}
use Rattle.sr_graph.proofs.link_set.LinkSet.add_listed.Given as goal

abbrev pub invariant-loop-link : goal.invariant-loop-link
invariant-loop-link l = IsWidened l.fn.self (λ n. (i : ℕ) × (i < l.link-index) × (number_at l.links i ≡ n)) l.self
