use Rattle.std.proofs.Common.{◌≡◌, ◌++◌, All}
use Rattle.sr_lsdb.specs.Facts.{StandsUnderItsId}
use Rattle.sr_domain.specs.Announced.{announced_in, announcements_of}
use Rattle.sr_domain.proofs.announced.announcements.Given as goal

abbrev pub invariant-loop-id : goal.invariant-loop-id
invariant-loop-id l =
    (l.out.items ++ announced_in l.facts l.id-iterator ≡ announcements_of l.facts)
    × All StandsUnderItsId l.id-iterator
