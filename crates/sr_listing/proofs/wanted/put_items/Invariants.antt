use Rattle.sr_listing.proofs.WantedLemmas.{WantedPut}
use Rattle.sr_listing.proofs.wanted.put_items.Given as goal

-- the lines of the wanted items of the cases so far were appended
abbrev pub invariant-loop-place : goal.invariant-loop-place
invariant-loop-place l = WantedPut l.fn.version.net l.wanted l.place l.fn.out.items l.out.items
