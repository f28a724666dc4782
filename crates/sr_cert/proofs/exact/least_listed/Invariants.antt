use Rattle.sr_cert.specs.Settled.{heading_of, IsLeastOffer}
use Rattle.sr_cert.proofs.OfferLemmas.{IsInListBelow}
use Rattle.sr_cert.proofs.exact.least_listed.Given as goal

abbrev pub invariant-loop-link : goal.invariant-loop-link
invariant-loop-link l =
    IsLeastOffer l.graph l.x (heading_of l.course) l.cells (IsInListBelow l.links l.link-index) l.least
