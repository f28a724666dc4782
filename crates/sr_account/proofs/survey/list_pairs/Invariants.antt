use Rattle.std.proofs.Common.{◌≡◌, map, filter, take}
use Rattle.std.specs.List.{filter_map}
use Rattle.sr_model.specs.Key.{mirror}
use Rattle.sr_lsdb.specs.declared.announcement.Announcement.{Announcement}
use Rattle.sr_domain.specs.Announced.{is_announced}
use Rattle.sr_domain.specs.Links.{link_by}
use Rattle.sr_account.specs.Steps.{link_pair}
use Rattle.sr_account.proofs.survey.list_pairs.Given as goal

abbrev pub invariant-loop-announcement : goal.invariant-loop-announcement
invariant-loop-announcement l =
    l.pairs.items ≡ map link_pair (filter_map (link_by l.facts)
    (filter (λ (a : Announcement). is_announced l.announcements (mirror a.key)) (take l.announcement-index l.announcements)))
