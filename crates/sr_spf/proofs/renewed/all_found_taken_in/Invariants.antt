use Rattle.std.proofs.Common.{◌≡◌, ◌+◌, ◌≤◌, ◌++◌}
use Rattle.sr_spf.specs.Renewed.{rows_found, searches}
use Rattle.sr_spf.proofs.renewed.all_found_taken_in.Given as goal

-- the rows so far, and those that are still to come, are all rows; likewise the searches, which never become fewer
abbrev pub invariant-loop-one : goal.invariant-loop-one
invariant-loop-one g l =
    (l.rows.items ++ rows_found l.one-iterator.rest.items ≡ rows_found l.fn.all.items)
    × (l.steps + searches l.one-iterator.rest.items ≡ l.fn.steps + searches l.fn.all.items)
    × (l.fn.steps ≤ l.steps)
