use Rattle.std.proofs.Common.{ℕ, ◌<◌}
use Rattle.sr_graph.specs.Members.{number_at}
use Rattle.sr_delta.specs.Pairs.{IsMatched}
use Rattle.sr_delta.proofs.risks.is_list_matched.Given as goal

abbrev pub invariant-loop-i : goal.invariant-loop-i
invariant-loop-i l = (k : ℕ) → k < l.i → IsMatched l.graph l.case l.other l.there (number_at l.links k)
