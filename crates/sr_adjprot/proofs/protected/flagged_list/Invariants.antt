use Rattle.std.proofs.Common.{◌≡◌, ◌++◌}
use Rattle.sr_adjprot.specs.Protected.{flagged_in, flagged_of}
use Rattle.sr_adjprot.proofs.protected.flagged_list.Given as goal

abbrev pub invariant-loop-id : goal.invariant-loop-id
invariant-loop-id l = l.out.items ++ flagged_in l.facts l.id-iterator ≡ flagged_of l.facts
