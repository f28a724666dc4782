use Rattle.std.proofs.Common.{refl, ap, ◌∙◌}
use Rattle.std.specs.Prelude.{slice_index_or, slice_set}
use Rattle.sr_repair.specs.declared.row.ChangedCell.{ChangedCell}
use Rattle.sr_repair.specs.Rows.{widened, overwritten}
use Rattle.sr_repair.proofs.RowLemmas.{overwritten-one}
use Rattle.sr_repair.proofs.row.write_over.Goals as goal

abbrev none : ChangedCell
none = record { node = record { 0 = 0 }; cost = 0 }

pub loop-one-init : goal.loop-one-init
unfolding overwritten
loop-one-init c = refl

pub loop-one-preserved : goal.loop-one-preserved
loop-one-preserved c =
    let at = c.loop-one.one-index in
    let changed = c.args.changed.now in
    let node = (slice_index_or changed at none).node.0 in
    ap (slice_set c.loop-one.cells node) c.widened.ensures
    ∙ ap (λ row. slice_set row node (widened (slice_index_or changed at none).cost)) c.loop-one.invariant
    ∙ overwritten-one c.args.cells.now changed at none c.loop-one-test.true
