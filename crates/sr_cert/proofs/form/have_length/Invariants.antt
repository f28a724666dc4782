use Rattle.std.proofs.Common.{◌≡◌, ◌<◌, ℕ, length}
use Rattle.sr_cert.specs.Walked.{row_numbered}
use Rattle.sr_cert.proofs.form.have_length.Given as goal

abbrev pub invariant-loop-row : goal.invariant-loop-row
invariant-loop-row l = (i : ℕ) → i < l.row-index → length (row_numbered l.rows i) ≡ l.count
