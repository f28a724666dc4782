use Rattle.std.proofs.Common.{arith}
use Rattle.sr_spaces.proofs.SpaceLemmas.{member-InP, InP-members}
use Rattle.sr_spaces.proofs.space.avoids_links.Goals as goal

pub returns-then-link_holds : goal.returns-then-link_holds
returns-then-link_holds c = (
  λ no. absurd (cc),
  λ inside. absurd (member-InP c.args.graph.now c.args.x.now c.links-link-items.result.now c.args.u.0 c.args.v.0 c.loop-link.link-index c.links-link-items.ensures c.loop-link-test.true (c.link_holds.ensures.0 c.if-link_holds.true) inside),
)

pub returns : goal.returns
returns c = (
  λ yes. InP-members c.args.graph.now c.args.trees.now c.args.x.now c.links-link-items.result.now c.args.u.0 c.args.v.0 c.requires.reached.trees c.requires.reached.begins c.requires.reached.ends c.requires.reached.near c.links-link-items.ensures
      (λ i lt. c.loop-link.invariant i (omega (arith, c.loop-link-test.false, lt))),
  λ inside. cc,
)
