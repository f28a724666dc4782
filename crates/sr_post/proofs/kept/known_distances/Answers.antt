use Rattle.sr_post.specs.Sets.{AreKeptCells}
use Rattle.sr_post.proofs.KeptLemmas.{kept-cells, kept-begun}
use Rattle.sr_post.proofs.kept.known_distances.Goals as goal

pub returns-clause-begun : goal.returns-clause-begun
returns-clause-begun c =
    let g = c.args.spaces.now.graph in
    let x = c.args.spaces.now.failed in
    let s = c.args.source.0 in
    let cells : AreKeptCells g x s c.row.result.now c.in_ok-cells.cells.items c.in_ok-lost.lost.items =
    kept-cells g x s c.row.result.now c.in_ok-cells.cells.items c.in_ok-lost.lost.items c.in_ok-kept.field-0.left c.requires.trees.graph c.row.ensures.long c.in_ok-kept.ensures.lost c.in_ok-cells.ensures c.in_ok-lost.ensures in (
      kept-begun g x s c.row.result.now c.in_ok-cells.cells.items c.in_ok-lost.lost.items c.requires.trees.graph c.requires.source c.row.ensures cells,
      (c.row.result.now, c.row.ensures, cells),
    )
