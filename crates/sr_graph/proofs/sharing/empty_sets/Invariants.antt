use Rattle.std.proofs.Common.{◌≡◌, [], replicate}
use Rattle.sr_graph.proofs.sharing.empty_sets.Given as goal

abbrev pub invariant-loop-link : goal.invariant-loop-link
invariant-loop-link l = l.sets.items ≡ replicate l._link []
