use Rattle.std.proofs.Common.{arith, refl}
use Rattle.std.proofs.lemmas.List.{same_lists}
use Rattle.sr_graph.proofs.same.are_grouped_alike.Goals as goal

pub returns : goal.returns
returns c = (
  λ _. same_lists c.args.one.now c.args.other.now c.if-one-other.false (λ k d within. c.loop-link.invariant k d (omega (arith, c.loop-link-test.false, within))),
  λ _. refl,
)
