use Rattle.sr_post.proofs.DangerLemmas.{AreSafe, safe-from, endangered-rest}
use Rattle.sr_post.proofs.kept.endangered.Goals as goal

pub returns : goal.returns
returns c =
    let g = c.args.spaces.now.graph in
    let safe : AreSafe c.row.result.now c.args.doubtful c.losing.result c.and_not-safe.result =
    safe-from c.row.result.now c.args.doubtful c.losing.result c.finite-reached.result c.and_not.result c.and_not-safe.result c.finite-reached.ensures c.and_not.ensures c.and_not-safe.ensures in
    endangered-rest g c.args.spaces.now.failed c.args.source.0 c.row.result.now c.args.doubtful c.losing.result c.and_not-safe.result c.requires.trees.graph c.requires.source c.row.ensures c.requires.doubtful c.losing.ensures safe
    c.below.result c.without.result c.and_not-2.result (rw (c.node_count-count.ensures.count, c.graph.ensures) at c.below.ensures) c.without.ensures c.and_not-2.ensures
