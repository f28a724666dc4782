use Rattle.sr_loads.proofs.TallyLemmas.{IsAddedBelow}
use Rattle.sr_loads.proofs.counts.add_counts.Given as goal

abbrev pub invariant-loop-link : goal.invariant-loop-link
invariant-loop-link l = IsAddedBelow l.other l.fn.counts.items l.counts.items l.link
