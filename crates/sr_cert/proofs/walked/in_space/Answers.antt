use Rattle.std.proofs.Common.{arith}
use Rattle.sr_cert.proofs.ToldLemmas.{refused, granted, holds}
use Rattle.sr_cert.proofs.SpaceLemmas.{none-in}
use Rattle.sr_cert.proofs.walked.in_space.Goals as goal
use Rattle.sr_graph.specs.Members.{number_at}
use Rattle.sr_walks.proofs.Distances.{none-from_InP}

pub returns-then-is_on_shortest : goal.returns-then-is_on_shortest
returns-then-is_on_shortest c = refused (λ inside. none-from_InP c.args.graph.now c.args.x.now c.args.u.0 c.args.v.0 (number_at c.links-link-items.result.now c.loop-link.link-index) inside (c.links-link-items.ensures.each c.loop-link.link-index c.loop-link-test.true) (holds c.is_on_shortest.result c.is_on_shortest.ensures c.if-is_on_shortest.true))

pub returns : goal.returns
returns c =
    granted (none-in c.args.graph.now c.args.u.0 c.args.v.0 c.requires.ways.ends c.args.from.now c.requires.ways.from c.args.x.now c.links-link-items.result.now c.links-link-items.ensures c.if-from-v-ge-FAR.false
    (λ i lt. c.loop-link.invariant i (omega (arith, lt, c.loop-link-test.false))))
