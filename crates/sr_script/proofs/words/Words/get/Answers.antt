use Rattle.std.proofs.Common.{arith, ◌∙◌, sym, ap}
use Rattle.sr_script.specs.Words.{word_at, words}
use Rattle.sr_script.proofs.KeptLemmas.{kept-at, none-kept}
use Rattle.sr_script.proofs.words.Words.get.Goals as goal

pub returns-then-place-self : goal.returns-then-place-self
returns-then-place-self c =
    kept-at c.self.inside.texts c.self.inside.count c.args.place _ (words c.self.inside.behind.now) c.if-place-self.true (omega (arith, c.self.invariant)) ∙ ap (λ ws. word_at ws c.args.place) c.self.view_is

pub returns-else-place-self : goal.returns-else-place-self
returns-else-place-self c =
    c.as_slice.ensures
    ∙ sym (none-kept c.self.inside.texts c.self.inside.count c.args.place (words c.self.inside.behind.now) c.if-place-self.false (c.self.invariant.1 (omega arith)))
    ∙ ap (λ ws. word_at ws c.args.place) c.self.view_is
