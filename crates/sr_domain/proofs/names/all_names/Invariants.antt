use Rattle.std.proofs.Common.{◌≡◌, ◌++◌, drop}
use Rattle.sr_domain.specs.GroupTables.{names_from}
use Rattle.sr_domain.proofs.names.all_names.Given as goal

abbrev pub invariant-loop-announcement : goal.invariant-loop-announcement
invariant-loop-announcement l = l.out.items ++ names_from (drop l.announcement-index l.announcements) ≡ names_from l.announcements
