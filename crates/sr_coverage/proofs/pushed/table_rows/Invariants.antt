use Rattle.sr_coverage.specs.Pushed.{AreRowsOf}
use Rattle.sr_coverage.proofs.pushed.table_rows.Given as goal

-- the rows of the slots so far
abbrev pub invariant-loop-slot : goal.invariant-loop-slot
invariant-loop-slot l = AreRowsOf l.fn.width l.fn.table l.slot l.rows.items
