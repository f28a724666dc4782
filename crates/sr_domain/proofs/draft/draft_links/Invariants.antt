use Rattle.std.proofs.Common.{◌≡◌, map, take}
use Rattle.std.specs.Prelude.{All}
use Rattle.std.specs.List.Sorted.{IsStrictlyIncreasing}
use Rattle.sr_graph.specs.declared.draft.DraftLink.{DraftLink}
use Rattle.sr_domain.specs.GroupTables.{HasItsGroups, draft_link, groups_in}
use Rattle.sr_domain.proofs.draft.draft_links.Given as goal

abbrev pub invariant-loop-link : goal.invariant-loop-link
invariant-loop-link l = record {
  made : l.out.items ≡ map (draft_link (groups_in l.table)) (take l.link-index l.links);
  groups : All (λ (d : DraftLink). IsStrictlyIncreasing d.groups) l.out.items;
  own : All (HasItsGroups (groups_in l.table)) l.out.items;
}
