use Rattle.std.proofs.Common.{◌≡◌, ◌++◌, drop}
use Rattle.std.specs.List.{filter_map}
use Rattle.sr_adjprot.specs.Protected.{flagged_by}
use Rattle.sr_adjprot.proofs.protected.add_flagged.Given as goal

abbrev pub invariant-loop-at : goal.invariant-loop-at
invariant-loop-at l = l.out.items ++ filter_map (flagged_by l.facts l.node) (drop l.at l.parts) ≡ l.initial.out.items ++ filter_map (flagged_by l.facts l.node) l.parts
