use Rattle.std.proofs.Common.{drop}
use Rattle.std.specs.Prelude.{◌↔◌}
use Rattle.sr_cert.specs.Clauses.{AreUsable}
use Rattle.sr_cert.proofs.form.are_usable.Given as goal

abbrev pub invariant-loop-segment : goal.invariant-loop-segment
invariant-loop-segment l =
    AreUsable l.net l.x l.at.0 (drop l.segment-index l.segments) ↔ AreUsable l.net l.x l.fn.begin.0 l.segments
