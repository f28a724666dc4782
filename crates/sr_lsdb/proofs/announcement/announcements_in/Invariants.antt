use Rattle.std.proofs.Common.{◌≡◌, ◌++◌, drop}
use Rattle.std.specs.List.{filter_map}
use Rattle.sr_lsdb.specs.Announcement.{announced_by, announcements_in}
use Rattle.sr_lsdb.proofs.announcement.announcements_in.Given as goal

abbrev pub invariant-loop-at : goal.invariant-loop-at
invariant-loop-at l = l.out.items ++ filter_map (announced_by l.lsp.id.system) (drop l.at l.lsp.parts) ≡ announcements_in l.lsp
