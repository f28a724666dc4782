use Rattle.std.proofs.Common.{arith}
use Rattle.sr_spaces.proofs.SpaceLemmas.{member-InP, InP-members}
use Rattle.sr_spaces.proofs.among.avoid_links.Goals as goal

pub returns : goal.returns
returns c v = (
  λ yes.
      let told = (c.loop-link.invariant v).0 yes in
      let near = c.requires.reached.each v told.0 in (
        told.0,
        InP-members c.args.graph.now c.args.trees.now c.args.x.now c.links-link-items.result.now c.args.u.0 v c.requires.reached.trees c.requires.reached.begins near.0 near.1 c.links-link-items.ensures
            (λ i lt. told.1 i (omega (arith, c.loop-link-test.false, lt))),
      ),
  λ both. (c.loop-link.invariant v).1 (both.0, λ i lt on. member-InP c.args.graph.now c.args.x.now c.links-link-items.result.now c.args.u.0 v i c.links-link-items.ensures (omega (arith, lt)) on both.1),
)
