use Rattle.std.proofs.Common.{sym, ◌∙◌}
use Rattle.sr_cert.proofs.DraftLemmas.{behind-rows}
use Rattle.sr_cert.proofs.parts.place_segment.Goals as goal

pub returns-then-not-is_empty : goal.returns-then-not-is_empty
returns-then-not-is_empty c = λ rest.
    behind-rows c.args.segments.now c.args.rows.now c.args.segment rest
    (rw c.as_slice.ensures at (sym c.if-not-is_empty.true ∙ c.is_empty.ensures))
