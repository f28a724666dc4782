use Rattle.std.specs.Prelude.{take}
use Rattle.sr_adjprot.specs.Protected.{IsLeastOf}
use Rattle.sr_adjprot.proofs.second.least_of.Given as goal

abbrev pub invariant-loop-label : goal.invariant-loop-label
invariant-loop-label l = IsLeastOf (take l.label-index l.labels) l.found
