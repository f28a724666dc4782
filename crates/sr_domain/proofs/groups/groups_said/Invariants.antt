use Rattle.std.proofs.Common.{◌≡◌, ◌++◌, drop}
use Rattle.sr_domain.specs.GroupTables.{groups_said}
use Rattle.sr_domain.proofs.groups.groups_said.Given as goal

abbrev pub invariant-loop-named : goal.invariant-loop-named
invariant-loop-named l = l.out.items ++ groups_said (drop l.named-index l.names) l.notes ≡ groups_said l.names l.notes
