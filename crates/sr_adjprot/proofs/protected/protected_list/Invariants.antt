use Rattle.std.proofs.Common.{◌≡◌, ◌++◌, drop}
use Rattle.std.specs.List.{filter_map}
use Rattle.sr_adjprot.specs.Protected.{if_protected, protected_of}
use Rattle.sr_adjprot.proofs.protected.protected_list.Given as goal

abbrev pub invariant-loop-one : goal.invariant-loop-one
invariant-loop-one l = l.out.items ++ filter_map if_protected (drop l.one-index l.one-items) ≡ protected_of l.facts
