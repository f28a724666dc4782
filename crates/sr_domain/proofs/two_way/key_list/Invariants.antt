use Rattle.std.proofs.Common.{◌≡◌, map, take}
use Rattle.sr_domain.specs.Announced.{announced_key}
use Rattle.sr_domain.proofs.two_way.key_list.Given as goal

abbrev pub invariant-loop-announcement : goal.invariant-loop-announcement
invariant-loop-announcement l = l.keys.items ≡ map announced_key (take l.announcement-index l.announcements)
