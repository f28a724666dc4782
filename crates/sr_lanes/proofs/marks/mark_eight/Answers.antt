use Rattle.std.proofs.lemmas.Simd.{get_or-put_chunk_below}
use Rattle.sr_lanes.proofs.MarkLemmas.{inside-block, above-block}
use Rattle.sr_lanes.proofs.marks.mark_eight.Goals as goal

pub returns-clause-inside : goal.returns-clause-inside
returns-clause-inside c v ge below = inside-block c.args.row.now c.args.cost c.args.base.now c.args.hits.now c.args.at c.requires.rows.lengths c.requires.room c.requires.rows.low c.requires.rows.cells v ge below

pub returns-clause-below : goal.returns-clause-below
returns-clause-below c v lt = get_or-put_chunk_below c.args.at c.args.hits.now _ v 0 lt

pub returns-clause-above : goal.returns-clause-above
returns-clause-above c v le = above-block c.args.row.now c.args.cost c.args.base.now c.args.hits.now c.args.at c.requires.rows.lengths c.requires.room c.requires.rows.low c.requires.rows.cells v le
