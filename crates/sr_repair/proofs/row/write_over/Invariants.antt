use Rattle.std.proofs.Common.{◌≡◌, take}
use Rattle.sr_repair.specs.Rows.{overwritten}
use Rattle.sr_repair.proofs.row.write_over.Given as goal

abbrev pub invariant-loop-one : goal.invariant-loop-one
invariant-loop-one l = l.cells ≡ overwritten l.fn.cells (take l.one-index l.changed)
