use Rattle.std.proofs.Common.{◌≡◌, ◌++◌, drop}
use Rattle.std.specs.List.{filter_map}
use Rattle.sr_domain.specs.Links.{link_by}
use Rattle.sr_domain.proofs.links.link_list.Given as goal

abbrev pub invariant-loop-announcement : goal.invariant-loop-announcement
invariant-loop-announcement l = l.out.items ++ filter_map (link_by l.facts) (drop l.announcement-index l.two_way) ≡ filter_map (link_by l.facts) l.two_way
