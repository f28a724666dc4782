use Rattle.std.proofs.Common.{◌≡◌, ◌∙◌, sym, ap, refl, inr, arith, map, drop}
use Rattle.std.specs.Prelude.{codes}
use Rattle.std.proofs.lemmas.Bool.{false≢true}
use Rattle.sr_script.specs.declared.command.TheConstants.{MOST_LABEL}
use Rattle.sr_script.specs.Number.{number_in}
use Rattle.sr_script.specs.Words.{words}
use Rattle.sr_script.proofs.CertificateWords.{none-said, labels-said, none-behind, labels-refused}
use Rattle.sr_script.proofs.certificate.read_done.Goals as goal

pub returns-then-len-lt3-clause-refused : goal.returns-then-len-lt3-clause-refused
returns-then-len-lt3-clause-refused c = none-behind c.args.words.now (codes "done") (record { first_is = c.requires.first; second_is = c.requires.second }) (inr refl) (omega arith)

pub returns-then-has_no_labels-clause-said : goal.returns-then-has_no_labels-clause-said
returns-then-has_no_labels-clause-said c =
    let alone = c.has_no_labels.ensures.0 c.if-has_no_labels.true in
    rw c.empty.ensures (none-said c.args.words.now (record { first_is = c.requires.first; second_is = c.requires.second }) alone.0 alone.1)

pub returns-in-Ok-clause-said : goal.returns-in-Ok-clause-said
returns-in-Ok-clause-said c =
    let behind : drop 2 c.args.words.now ≡ words c.text_behind.result.now = ap (drop 2) c.requires.whole ∙ sym c.text_behind.ensures in
    labels-said c.args.words.now c.in-Ok.labels (record { first_is = c.requires.first; second_is = c.requires.second }) (omega arith)
    (ap (map (number_in 0 MOST_LABEL)) behind ∙ c.in-Ok.ensures.given) c.in-Ok.ensures.room

pub returns-in-Err-clause-refused : goal.returns-in-Err-clause-refused
returns-in-Err-clause-refused c =
    let behind : drop 2 c.args.words.now ≡ words c.text_behind.result.now = ap (drop 2) c.requires.whole ∙ sym c.text_behind.ensures in
    labels-refused c.args.words.now c.in-Err.fault (record { first_is = c.requires.first; second_is = c.requires.second })
    (λ alone. false≢true (sym c.if-has_no_labels.false ∙ c.has_no_labels.ensures.1 alone)) (rw behind c.in-Err.ensures.err)
