use Rattle.std.proofs.Common.{arith}
use Rattle.std.proofs.lemmas.List.Elements.{recursion_from_All}
use Rattle.sr_lsdb.specs.Alike.{IsAlikeAt}
use Rattle.sr_lsdb.proofs.AlikeLemmas.{alike-everywhere, alike-said}
use Rattle.sr_lsdb.proofs.sides.Sides.says_the_same.Goals as goal

pub returns-then-not-is_alike : goal.returns-then-not-is_alike
returns-then-not-is_alike c = (
  λ h. absurd (cc),
  λ same. absurd (let yes = c.is_alike.ensures.1 (alike-said c.args.self.now.front c.args.self.now.back same _) in cc),
)

pub settle_said-requires : goal.settle_said-requires
settle_said-requires c =
    let sides = c.args.self.now in
    alike-everywhere sides.touched.items sides.front sides.back c.requires
    (recursion_from_All (λ name. IsAlikeAt name sides.front sides.back) sides.touched.items (λ k d within. c.loop-name.invariant k d (omega (arith, c.loop-name-test.false, within))))
