use Rattle.std.proofs.Common.{length, ap, ◌∙◌}
use Rattle.sr_delta.specs.Lost.{AreLostSets}
use Rattle.sr_delta.proofs.LostLemmas.{rows-stand}
use Rattle.sr_delta.proofs.lost.renewal.Goals as goal

pub lost_sets-requires-clause-kept : goal.lost_sets-requires-clause-kept
lost_sets-requires-clause-kept c = ap length c.deref.ensures.value ∙ c.in_ok-stays.ensures.long

pub returns-clause-renewal : goal.returns-clause-renewal
returns-clause-renewal c = λ n m changes trees same graph.
    let sets : AreLostSets m.graph c.args.old.now.rows c.args.changes.now.links c.in_ok-stays.stays.items c.in_ok-lost.lost.items = rw (graph, c.links.ensures.links, c.deref.ensures.value) at c.in_ok-lost.ensures in
    record {
      stays = c.in_ok-stays.ensures.renewable n m changes trees same;
      lost = rows-stand n m c.args.changes.now c.args.old.now _ changes trees same (c.in_ok-stays.ensures.long ∙ trees.long) sets;
    }
