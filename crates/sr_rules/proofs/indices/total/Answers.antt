use Rattle.std.proofs.Common.{◌≡◌, drop, arith, ap}
use Rattle.std.proofs.lemmas.List.{drop_all}
use Rattle.sr_model.specs.Label.{sizes}
use Rattle.sr_labels.proofs.RangeLoops.{sizes-split}
use Rattle.sr_rules.proofs.indices.total.Goals as goal

pub loop-range-preserved : goal.loop-range-preserved
loop-range-preserved c =
    let split = sizes-split c.args.ranges.now c.loop-range.range-index c.loop-range-test.true in
    record {
      fits = omega (arith, c.saturating_add-total.type_inv);
      sum = omega (arith, split, c.saturating_add-total.ensures, c.loop-range.invariant.sum, c.loop-range.invariant.fits);
    }

pub returns : goal.returns
returns c =
    let none : sizes (drop c.loop-range.range-index c.args.ranges.now) ≡ 0 = ap sizes (drop_all c.loop-range.range-index c.args.ranges.now c.loop-range-test.false) in
    omega (arith, none, c.loop-range.invariant.sum, c.loop-range.invariant.fits)
