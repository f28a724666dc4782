use Rattle.std.proofs.Common.{◌≡◌, ◌∙◌, sym, ap, refl, inl, arith, map, drop}
use Rattle.std.specs.Prelude.{codes}
use Rattle.sr_script.specs.Number.{cell_read}
use Rattle.sr_script.specs.Words.{words}
use Rattle.sr_script.proofs.CertificateWords.{row-said, none-behind, row-refused}
use Rattle.sr_script.proofs.certificate.read_row.Goals as goal

pub returns-then-len-lt3-clause-refused : goal.returns-then-len-lt3-clause-refused
returns-then-len-lt3-clause-refused c = none-behind c.args.words.now (codes "row") (record { first_is = c.requires.first; second_is = c.requires.second }) (inl refl) (omega arith)

pub returns-in-Ok-clause-said : goal.returns-in-Ok-clause-said
returns-in-Ok-clause-said c =
    let behind : drop 2 c.args.words.now ≡ words c.text_behind.result.now = ap (drop 2) c.requires.whole ∙ sym c.text_behind.ensures in
    row-said c.args.words.now c.in-Ok.cells (record { first_is = c.requires.first; second_is = c.requires.second }) (omega arith)
    (ap (map cell_read) behind ∙ c.in-Ok.ensures.given) c.in-Ok.ensures.room

pub returns-in-Err-clause-refused : goal.returns-in-Err-clause-refused
returns-in-Err-clause-refused c =
    let behind : drop 2 c.args.words.now ≡ words c.text_behind.result.now = ap (drop 2) c.requires.whole ∙ sym c.text_behind.ensures in
    row-refused c.args.words.now c.in-Err.fault (record { first_is = c.requires.first; second_is = c.requires.second }) (rw behind c.in-Err.ensures.err)
