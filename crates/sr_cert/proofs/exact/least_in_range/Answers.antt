use Rattle.std.proofs.Common.{arith}
use Rattle.sr_graph.specs.Members.{IsInRange}
use Rattle.sr_cert.specs.Settled.{heading_of}
use Rattle.sr_cert.proofs.OfferLemmas.{least-none, range-more, least-same}
use Rattle.sr_cert.proofs.exact.least_in_range.Goals as goal

pub loop-link-init : goal.loop-link-init
loop-link-init c =
    least-none c.args.graph.now c.args.x.now (heading_of c.args.course) c.args.cells.now _ (λ l r. omega (arith, r.0, r.1))

pub loop-link-preserved : goal.loop-link-preserved
loop-link-preserved c =
    range-more c.args.graph.now c.args.x.now (heading_of c.args.course) c.args.cells.now c.args.links.first c.loop-link.link _ _ _ c.loop-link.auto.link c.loop-link.invariant c.offer.ensures c.min-least.ensures

pub returns : goal.returns
returns c =
    least-same c.args.graph.now c.args.x.now (heading_of c.args.course) c.args.cells.now _ (IsInRange c.args.links.first c.args.links.end) _
    (λ k within r. (r.0, omega (arith, r.1, c.loop-link.auto.link-end c.requires.order)))
    (λ k within r. (r.0, omega (arith, r.1, c.loop-link-test.false)))
    c.loop-link.invariant
