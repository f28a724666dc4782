use Rattle.std.proofs.Common.{arith}
use Rattle.sr_graph.specs.Members.{IsInList}
use Rattle.sr_cert.specs.Settled.{heading_of}
use Rattle.sr_cert.proofs.OfferLemmas.{least-none, listed-more, least-same}
use Rattle.sr_cert.proofs.exact.least_listed.Goals as goal

pub loop-link-init : goal.loop-link-init
loop-link-init c =
    least-none c.args.graph.now c.args.x.now (heading_of c.args.course) c.args.cells.now _ (λ l r. omega (arith, r.1))

pub loop-link-preserved : goal.loop-link-preserved
loop-link-preserved c =
    listed-more c.args.graph.now c.args.x.now (heading_of c.args.course) c.args.cells.now c.args.links.now c.loop-link.link-index _ _ _ c.loop-link.invariant c.offer.ensures c.min-least.ensures

pub returns : goal.returns
returns c =
    least-same c.args.graph.now c.args.x.now (heading_of c.args.course) c.args.cells.now _ (IsInList c.args.links.now) _
    (λ k within r. (r.0, omega (arith, r.1, c.loop-link.auto.link-index-end), r.2))
    (λ k within r. (r.0, omega (arith, r.1, c.loop-link-test.false), r.2))
    c.loop-link.invariant
