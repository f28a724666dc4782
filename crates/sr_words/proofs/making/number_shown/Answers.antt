use Rattle.std.proofs.Common.{◌∙◌, arith, sym, subst}
use Rattle.std.specs.Str.Parse.{ExplainsUnsignedError, HasUnsignedDigitsIfOk}
use Rattle.clap.specs.Matches.{found_of}
use Rattle.clap.specs.Walk.{rows_of}
use Rattle.clap.proofs.WalkLemmas.{one_text-rows}
use Rattle.sr_words.specs.Making.{Ranged, IsNumberOf}
use Rattle.sr_words.proofs.MakingLemmas.{reader_of, shown, outside, unread}
use Rattle.sr_words.proofs.making.number_shown.Goals as goal

pub returns-in_err-number : goal.returns-in_err-number
returns-in_err-number c =
    let rows = rows_of (found_of c.args.matches.now) in
    let range : Ranged = record { name = c.args.name.now; least = c.args.least; most = c.args.most } in
    let reader = reader_of (λ t x. ExplainsUnsignedError 10 t x) (λ t x. HasUnsignedDigitsIfOk t x) in
    let text = one_text-rows (found_of c.args.matches.now) c.args.name.now in
    let none = unread _ reader range rows (omega (arith, c.ranges.most.fits)) (λ t e. c.in_err-number.ensures.value t (text ∙ e)) in
    subst (IsNumberOf range rows) (sym c.from_residual.ensures) none

pub returns-then-number-most : goal.returns-then-number-most
returns-then-number-most c =
    let reader = reader_of (λ t x. ExplainsUnsignedError 10 t x) (λ t x. HasUnsignedDigitsIfOk t x) in
    let text = one_text-rows (found_of c.args.matches.now) c.args.name.now in
    shown _ reader _ (rows_of (found_of c.args.matches.now)) c.in_ok-number.number
    (λ e. c.in_ok-number.ensures.none (text ∙ e)) (λ t e. c.in_ok-number.ensures.value t (text ∙ e)) (omega arith) (omega arith)

pub returns-else-least-number : goal.returns-else-least-number
returns-else-least-number c =
    let reader = reader_of (λ t x. ExplainsUnsignedError 10 t x) (λ t x. HasUnsignedDigitsIfOk t x) in
    let text = one_text-rows (found_of c.args.matches.now) c.args.name.now in
    outside _ reader _ (rows_of (found_of c.args.matches.now)) c.in_ok-number.number (λ t e. c.in_ok-number.ensures.value t (text ∙ e)) (λ low. omega (arith, c.else-least-number.either))
