use Rattle.sr_graph.specs.Members.{IsInRange}
use Rattle.sr_cert.specs.Settled.{heading_of, IsLeastOffer}
use Rattle.sr_cert.proofs.exact.least_in_range.Given as goal

abbrev pub invariant-loop-link : goal.invariant-loop-link
invariant-loop-link l =
    IsLeastOffer l.graph l.x (heading_of l.course) l.cells (IsInRange l.fn.links.first l.link) l.least
