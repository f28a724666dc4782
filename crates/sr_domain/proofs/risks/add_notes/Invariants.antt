use Rattle.std.proofs.Common.{◌≡◌, ◌++◌, drop}
use Rattle.sr_domain.specs.Groups.{notes_from}
use Rattle.sr_domain.proofs.risks.add_notes.Given as goal

abbrev pub invariant-loop-at : goal.invariant-loop-at
invariant-loop-at l = l.out.items ++ notes_from l.node (drop l.at l.parts) ≡ l.initial.out.items ++ notes_from l.node l.parts
