use Rattle.std.proofs.Common.{◌≡◌, ◌%◌, ◌<◌, get_or, refl, arith}
use Rattle.sr_insight.specs.declared.stack_count.StackCount.{StackCount}
use Rattle.sr_coverage.specs.Pushed.{row_slot}
use Rattle.sr_coverage.proofs.PushedLemmas.{rows-skip, rows-push}
use Rattle.sr_coverage.proofs.pushed.table_rows.Goals as goal
use Rattle.sr_coverage.proofs.pushed.table_rows.Goals.{then-repairs-gt0+in_ok-push, else-repairs-gt0}

pub loop-slot-preserved : goal.loop-slot-preserved
loop-slot-preserved c = elim c.if-repairs-gt0.branch [
  | then-repairs-gt0+in_ok-push w ↦
      let width = c.args.width in
      let slot = c.loop-slot.slot in
      let row : StackCount = record { kind = w.kind_at.result; labels = slot % width; repairs = get_or c.args.table.now slot 0 } in
      let few : slot % width < width = omega (arith, c.requires.some) in
      let at : row_slot width row ≡ slot = rw w.kind_at.ensures (omega (arith, c.requires.some)) in
      rw (w.rows-is, w.in_ok-push.ensures.items) (rows-push width c.args.table.now slot c.loop-slot.rows.items row few at refl w.if-repairs-gt0.true c.loop-slot.invariant)
  | else-repairs-gt0 w ↦ rw w.rows-is (rows-skip c.args.width c.args.table.now c.loop-slot.slot c.loop-slot.rows.items (omega (arith, w.if-repairs-gt0.false)) c.loop-slot.invariant)
]
