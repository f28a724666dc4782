use Rattle.std.proofs.Common.{◌≡◌, ◌∷◌, ◌++◌}
use Rattle.sr_cert.specs.declared.draft.CertLine.TheVariants.{Via}
use Rattle.sr_cert.specs.Parts.{body_lines}
use Rattle.sr_cert.proofs.parts.parts_of.Given as goal

abbrev pub invariant-loop-line : goal.invariant-loop-line
invariant-loop-line l =
    (goal.iterator-loop-line).can_next l.line-iterator
    × (goal.iterator-loop-line).is_finite l.line-iterator
    × (l.fn.lines.items ≡ Via l.first ∷ body_lines l.segments l.rows ++ l.line-iterator.rest.items)
