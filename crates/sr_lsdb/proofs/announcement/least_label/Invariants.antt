use Rattle.std.proofs.Common.{◌≡◌, take}
use Rattle.sr_lsdb.specs.Announcement.{least, adj_sid_labels}
use Rattle.sr_lsdb.proofs.announcement.least_label.Given as goal

abbrev pub invariant-loop-sid : goal.invariant-loop-sid
invariant-loop-sid l = l.found ≡ least (adj_sid_labels l.backup (take l.sid-index l.sids))
