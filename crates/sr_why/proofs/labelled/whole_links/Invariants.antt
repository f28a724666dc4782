use Rattle.sr_why.specs.Whole.{AreWholeLinks}
use Rattle.sr_why.proofs.labelled.whole_links.Given as goal

abbrev pub invariant-loop-link : goal.invariant-loop-link
invariant-loop-link l = AreWholeLinks l.nodes l.link l.adj.items
