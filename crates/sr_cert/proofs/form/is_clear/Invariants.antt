use Rattle.std.proofs.Common.{drop}
use Rattle.std.specs.Prelude.{◌↔◌}
use Rattle.sr_model.specs.Repair.{Clear}
use Rattle.sr_cert.proofs.form.is_clear.Given as goal

abbrev pub invariant-loop-segment : goal.invariant-loop-segment
invariant-loop-segment l =
    Clear l.net l.d.0 l.at.0 (drop l.segment-index l.segments) ↔ Clear l.net l.d.0 l.fn.begin.0 l.segments
