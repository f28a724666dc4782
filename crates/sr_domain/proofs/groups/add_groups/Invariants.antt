use Rattle.std.proofs.Common.{◌≡◌, ◌++◌, take, map}
use Rattle.sr_domain.specs.GroupTables.{note_group}
use Rattle.sr_domain.proofs.groups.add_groups.Given as goal

abbrev pub invariant-loop-note : goal.invariant-loop-note
invariant-loop-note l = l.out.items ≡ l.initial.out.items ++ map note_group (take l.note-index l.notes)
