use Rattle.std.proofs.Common.{◌≡◌, ℕ, ◌<◌, List, get_or}
use Rattle.sr_graph.proofs.same.are_grouped_alike.Given as goal

abbrev pub invariant-loop-link : goal.invariant-loop-link
invariant-loop-link l = (k : ℕ) (d : List ℕ) → k < l.link → get_or l.one k d ≡ get_or l.other k d
