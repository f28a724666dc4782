use Rattle.std.proofs.Common.{◌≡◌, take, filter}
use Rattle.sr_model.specs.Key.{mirror}
use Rattle.sr_lsdb.specs.declared.announcement.Announcement.{Announcement}
use Rattle.sr_domain.specs.Announced.{is_announced}
use Rattle.sr_domain.proofs.two_way.two_way.Given as goal

abbrev pub invariant-loop-announcement : goal.invariant-loop-announcement
invariant-loop-announcement l = l.out.items ≡ filter (λ (a : Announcement). is_announced l.announcements (mirror a.key)) (take l.announcement-index l.announcements)
