use Rattle.std.proofs.Common.{◌≡◌, ap, subst, sym, ◌∙◌}
use Rattle.std.specs.Prelude.{drop, None}
use Rattle.sr_script.specs.Says.{SaysCommand}
use Rattle.sr_script.specs.Answers.{IsQuestionOf}
use Rattle.sr_script.proofs.LineLemmas.{try-said, try-refused}
use Rattle.sr_script.proofs.reading.read_try_words.Goals as goal

pub returns-in-Some-clause-said : goal.returns-in-Some-clause-said
returns-in-Some-clause-said c =
    let behind : c.of.result ≡ drop 1 c.args.words.now = c.of.ensures ∙ c.text_behind.ensures ∙ ap (drop 1) (sym c.requires.whole) in
    try-said c.args.words.now c.in-Some.question c.requires.first c.in-Some.ensures.0 (subst (λ ws. SaysCommand ws c.in-Some.question) behind c.in-Some.ensures.1)

pub returns-in-None-clause-refused : goal.returns-in-None-clause-refused
returns-in-None-clause-refused c =
    let behind : c.of.result ≡ drop 1 c.args.words.now = c.of.ensures ∙ c.text_behind.ensures ∙ ap (drop 1) (sym c.requires.whole) in
    try-refused c.args.words.now c.requires.first (subst (λ ws. IsQuestionOf ws None) behind c.in-None.ensures)
