use Rattle.std.proofs.Common.{sym, subst}
use Rattle.sr_model.specs.Graph.{Graph}
use Rattle.sr_coverage.specs.Counting.{AreInGroups, AreCounted}
use Rattle.sr_coverage.proofs.GroupLemmas.{audit-within, groups-sorted}
use Rattle.sr_coverage.proofs.groups.audit_groups.Goals as goal

pub count_items-requires-clause-within : goal.count_items-requires-clause-within
count_items-requires-clause-within c =
    subst (λ (g : Graph). AreInGroups c.args.grouping g c.args.items.now) (sym c.graph-graph.ensures.value)
    (audit-within c.args.net.now c.args.grouping c.args.items.now c.graph-graph.ensures.net c.requires.audit)

pub returns : goal.returns
returns c =
    groups-sorted c.args.grouping c.args.net.now.graph c.args.items.now c.count_items.new.groups.items c.sorted.result.items
    (subst (λ (g : Graph). AreCounted c.args.grouping g c.args.items.now c.count_items.new.groups.items) c.graph-graph.ensures.value c.count_items.ensures)
    c.sorted.ensures.same
    c.sorted.ensures.order
