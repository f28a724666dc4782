use Rattle.std.proofs.Common.{◌≡◌, ◌++◌, drop}
use Rattle.std.specs.List.{filter_map}
use Rattle.sr_adjprot.specs.Protected.{label_beside, labels_beside}
use Rattle.sr_adjprot.proofs.protected.list_beside.Given as goal

abbrev pub invariant-loop-one : goal.invariant-loop-one
invariant-loop-one l = l.out.items ++ filter_map (label_beside l.key l.own) (drop l.one-index l.one-items) ≡ labels_beside l.facts l.key l.own
