use Rattle.std.proofs.Common.{◌≡◌, length, arith, refl}
use Rattle.std.proofs.lemmas.List.{same_lists}
use Rattle.sr_lsp.proofs.parts.Parts.is_same.Goals as goal

pub returns : goal.returns
returns c =
    let one = c.args.self.now in
    let other = c.args.other.now in
    let counts : length one ≡ length other = omega arith in (
      λ _. same_lists one other counts (λ k d within. c.loop-place.invariant k d (omega (arith, c.loop-place-test.false, within))),
      λ _. refl,
    )
