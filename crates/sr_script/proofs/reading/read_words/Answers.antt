use Rattle.std.proofs.Common.{sym, ◌∙◌, ◌≢◌}
use Rattle.std.specs.Prelude.{codes}
use Rattle.std.proofs.lemmas.Bool.{false≢true}
use Rattle.sr_script.specs.Words.{word_at}
use Rattle.sr_script.specs.LineSays.{SayNothing}
use Rattle.sr_script.proofs.LineLemmas.{reading-refused}
use Rattle.sr_script.proofs.reading.read_words.Goals as goal

pub returns-in-Err-clause-refused : goal.returns-in-Err-clause-refused
returns-in-Err-clause-refused c =
    let something : ¬ SayNothing c.args.words.now = λ said. false≢true (sym c.if-says_nothing.false ∙ c.says_nothing.ensures.1 said) in
    let other : word_at c.args.words.now 0 ≢ codes "lsp" = λ lsp. false≢true (sym c.if-has.false ∙ c.has.ensures.1 lsp) in
    let untried : word_at c.args.words.now 0 ≢ codes "try" = λ tried. false≢true (sym c.if-has-3.false ∙ c.has-3.ensures.1 tried) in
    reading-refused c.args.words.now c.in-Err.fault something other untried c.in-Err.ensures
