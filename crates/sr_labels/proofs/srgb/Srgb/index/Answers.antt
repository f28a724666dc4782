use Rattle.std.proofs.Common.{◌≡◌, ◌≤◌, inl, inr, List, arith, ap, sym}
use Rattle.sr_model.specs.declared.label.Range.{Range}
use Rattle.sr_model.specs.Label.{sizes}
use Rattle.sr_laws.proofs.Ranges.{good, sizes-few}
use Rattle.sr_labels.proofs.RangeLoops.{sizes-split, below-goes_on, below-none}
use Rattle.sr_labels.proofs.srgb.Srgb.index.Goals as goal
use Rattle.sr_labels.proofs.srgb.Srgb.index.Goals.{else-label-range-via-then-label-range+else-label-range-2, else-label-range-via-else-label-range}

pub overflow_add-result : goal.overflow_add-result
overflow_add-result c =
    let rs : List Range = c.deref-range-items.result.now in
    let few : sizes c.self.inside.ranges.items ≤ 1048576 = sizes-few c.self.inside.ranges.items 1048576 (omega arith) (good _ c.self.invariant.0) in
    let same : sizes c.deref-range-items.result.now ≡ sizes c.self.inside.ranges.items = ap sizes c.deref-range-items.ensures.value in
    omega (arith, sizes-split c.deref-range-items.result.now c.loop-range.range-index (omega arith))

pub overflow_add-below : goal.overflow_add-below
overflow_add-below c =
    let few : sizes c.self.inside.ranges.items ≤ 1048576 = sizes-few c.self.inside.ranges.items 1048576 (omega arith) (good _ c.self.invariant.0) in
    let same : sizes c.deref-range-items.result.now ≡ sizes c.self.inside.ranges.items = ap sizes c.deref-range-items.ensures.value in
    omega (arith, sizes-split c.deref-range-items.result.now c.loop-range.range-index (omega arith))

pub loop-range-preserved : goal.loop-range-preserved
loop-range-preserved c =
    below-goes_on _ _ _ _ (omega arith) c.loop-range.invariant
    (elim c.else-label-range.branch [
      | else-label-range-via-then-label-range+else-label-range-2 w ↦ inr (omega arith)
      | else-label-range-via-else-label-range w ↦ inl (omega arith)
    ])

pub returns-clause-value : goal.returns-clause-value
returns-clause-value c = rw (sym c.self.view_is, sym c.deref-range-items.ensures.value) (below-none _ _ _ _ (omega arith) c.loop-range.invariant)
