use Rattle.std.proofs.Common.{◌≡◌, ◌≤◌, ◌+◌, ◌*◌, drop}
use Rattle.sr_cert.specs.Walked.{rows_asked}
use Rattle.sr_cert.proofs.form.rows_wanted.Given as goal

abbrev pub invariant-loop-segment : goal.invariant-loop-segment
invariant-loop-segment l =
    record { sum : l.wanted + rows_asked (drop l.segment-index l.segments) ≡ rows_asked l.segments + 3; few : l.wanted ≤ 2 * l.segment-index + 3 }
