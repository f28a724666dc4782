use Rattle.std.proofs.Common.{◌≡◌, ◌+◌, ◌≤◌, ◌++◌, length}
use Rattle.sr_spf.specs.Rows.{rows_in}
use Rattle.sr_spf.proofs.rows.all_taken_in.Given as goal

-- the rows so far, and those that are still to come, are all rows; likewise the searches, which never become fewer
abbrev pub invariant-loop-one : goal.invariant-loop-one
invariant-loop-one g l =
    (l.rows.items ++ rows_in l.one-iterator.rest.items ≡ rows_in l.fn.all.items)
    × (l.steps + length l.one-iterator.rest.items ≡ l.fn.steps + length l.fn.all.items)
    × (l.fn.steps ≤ l.steps)
