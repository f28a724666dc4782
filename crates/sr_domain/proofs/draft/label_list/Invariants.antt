use Rattle.std.proofs.Common.{◌≡◌, map, take}
use Rattle.sr_domain.specs.Links.{link_label}
use Rattle.sr_domain.proofs.draft.label_list.Given as goal

abbrev pub invariant-loop-link : goal.invariant-loop-link
invariant-loop-link l = l.out.items ≡ map link_label (take l.link-index l.links)
