use Rattle.std.proofs.Common.{◌≡◌, ◌++◌}
use Rattle.sr_domain.specs.Groups.{notes_in, notes_of}
use Rattle.sr_domain.proofs.risks.notes.Given as goal

abbrev pub invariant-loop-id : goal.invariant-loop-id
invariant-loop-id l = l.out.items ++ notes_in l.facts l.id-iterator ≡ notes_of l.facts
