use Rattle.std.proofs.Common.{sym, ◌∙◌}
use Rattle.sr_cert.proofs.ToldLemmas.{refused}
use Rattle.sr_cert.proofs.SpaceLemmas.{on-sum, on-carries, sum-on}
use Rattle.sr_cert.proofs.walked.is_on_shortest.Goals as goal

pub returns-then-around-from : goal.returns-then-around-from
returns-then-around-from c =
    refused (λ on. c.if-around-from.true (rw (c.edge-edge.ensures.from, c.edge-edge.ensures.to, c.edge-edge.ensures.metric)
    (on-sum c.args.graph.now c.edge-edge.ensures.graph c.args.u.0 c.args.v.0 c.requires.ways.ends c.args.from.now c.args.to.now c.requires.ways.from c.requires.ways.to c.args.link.0 c.requires.link c.requires.near on)))

pub returns-then-carries : goal.returns-then-carries
returns-then-carries c =
    let sum = rw (c.edge-edge.ensures.from, c.edge-edge.ensures.to, c.edge-edge.ensures.metric) at c.if-around-from.false in (
      λ yes. sum-on c.args.graph.now c.edge-edge.ensures.graph c.args.u.0 c.args.v.0 c.requires.ways.ends c.args.from.now c.args.to.now c.requires.ways.from c.requires.ways.to c.args.link.0 c.requires.link c.requires.near
          (rw c.edge-edge.ensures.from at (sym c.carries.ensures ∙ c.if-carries.true)) (rw c.edge-edge.ensures.to at (sym c.carries-then-carries.ensures ∙ yes)) sum,
      λ on. c.carries-then-carries.ensures ∙ rw c.edge-edge.ensures.to (on-carries c.args.graph.now c.args.u.0 c.args.v.0 c.args.link.0 on).1,
    )

pub returns-else-carries : goal.returns-else-carries
returns-else-carries c = (
  λ yes. absurd (cc),
  λ on. c.carries.ensures ∙ rw c.edge-edge.ensures.from (on-carries c.args.graph.now c.args.u.0 c.args.v.0 c.args.link.0 on).0,
)
