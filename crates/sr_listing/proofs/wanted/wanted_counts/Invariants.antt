use Rattle.sr_listing.proofs.WantedLemmas.{WantedCounted}
use Rattle.sr_listing.proofs.wanted.wanted_counts.Given as goal

-- the counts of the wanted items of the cases so far
abbrev pub invariant-loop-place : goal.invariant-loop-place
invariant-loop-place l = WantedCounted l.fn.version.net l.wanted l.place l.so_far
