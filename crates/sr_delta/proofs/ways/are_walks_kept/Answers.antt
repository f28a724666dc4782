use Rattle.std.proofs.Common.{◌≡◌, ℕ}
use Rattle.std.specs.Prelude.{◌&&◌, not}
use Rattle.sr_lanes.specs.Bits.{is_in}
use Rattle.sr_delta.proofs.CaseLemmas.{walks-from_none, none-from_walks}
use Rattle.sr_delta.proofs.ways.are_walks_kept.Goals as goal

pub returns : goal.returns
returns c = λ m stay.
    let minus : (v : ℕ) → is_in c.and_not.result v ≡ (is_in c.args.old.now.walks v && not (is_in c.args.staying.now.nodes v)) = rw c.walks.ensures.walks at c.and_not.ensures in (
      λ is. walks-from_none c.args.old.now m c.args.staying.now c.and_not.result c.walks.ensures.computed stay minus (c.is_empty.ensures.0 is),
      λ kept. c.is_empty.ensures.1 (none-from_walks c.args.old.now m c.args.staying.now c.and_not.result c.walks.ensures.computed stay minus kept),
    )
