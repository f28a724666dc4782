use Rattle.std.proofs.Common.{arith, sym, ◌∙◌, ◌<◌, length}
use Rattle.std.proofs.lemmas.Bool.{eqb-true}
use Rattle.sr_script.proofs.WordLemmas.{no-word, first-word}
use Rattle.sr_script.proofs.cursor.next_word.Goals as goal

pub returns-then-is_empty : goal.returns-then-is_empty
returns-then-is_empty c =
    no-word c.args.text.now c.split_at.result.1.now c.blanks_before.result c.blanks_before.ensures.within c.blanks_before.ensures.before
    c.split_at.ensures.back (eqb-true _ _ (sym c.is_empty.ensures ∙ c.if-is_empty.true))

pub returns : goal.returns
returns c =
    let some : 0 < length c.split_at.result.1.now = grind arith in
    let said = first-word c.args.text.now c.split_at.result.1.now c.blanks_before.result c.word_length.result
    c.blanks_before.ensures.within c.blanks_before.ensures.before c.blanks_before.ensures.found c.split_at.ensures.back some
    c.word_length.ensures.within c.word_length.ensures.before c.word_length.ensures.found in
    cc
