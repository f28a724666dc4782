use Rattle.sr_spf.proofs.BegunLemmas.{IsLeastSoFar}
use Rattle.sr_spf.proofs.begun.least_way.Given as goal

abbrev pub invariant-loop-link : goal.invariant-loop-link
invariant-loop-link l = IsLeastSoFar l.graph l.without l.fn.source.0 l.cells l.link-items l.link-index l.fn.node.0 l.least
