use Rattle.sr_adjprot.proofs.MarkLemmas.{AreMarkedBelow}
use Rattle.sr_adjprot.proofs.marks.marks.Given as goal

abbrev pub invariant-loop-number : goal.invariant-loop-number
invariant-loop-number l = AreMarkedBelow l.graph l.keys l.out.items l.number
