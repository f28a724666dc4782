use Rattle.std.proofs.Common.{◌≡◌, ◌+◌, ◌<◌, ◌∷◌, ◌++◌, [], length, take, sym, ap, subst, arith, ◌∙◌}
use Rattle.std.proofs.lemmas.List.{take_more}
use Rattle.std.proofs.lemmas.Slice.Zip.{all_zipped_more}
use Rattle.sr_model.specs.Case.{IsAffected}
use Rattle.sr_model.specs.Repair.{IsCaseAnswer}
use Rattle.sr_encode.specs.declared.answers.NodeAnswer.{NodeAnswer}
use Rattle.sr_repair.specs.Items.{IsItemFor}
use Rattle.sr_audit.proofs.audits.items_of.Goals as goal

pub item_of-requires-clause-affected : goal.item_of-requires-clause-affected
item_of-requires-clause-affected c =
    let lt : c.loop-place.place < length c.args.answers.now = omega (arith, c.loop-place-test.true, c.count-place-end.ensures) in
    subst (λ (e : NodeAnswer). IsAffected c.args.net.now c.args.case e.destination.0) (sym c.at.ensures) (c.requires.answers.affected c.loop-place.place lt)

pub item_of-requires-clause-answer : goal.item_of-requires-clause-answer
item_of-requires-clause-answer c =
    let lt : c.loop-place.place < length c.args.answers.now = omega (arith, c.loop-place-test.true, c.count-place-end.ensures) in
    subst (λ (e : NodeAnswer). IsCaseAnswer c.args.net.now c.args.case e.destination.0 e.answer) (sym c.at.ensures) (c.requires.answers.answers c.loop-place.place lt)

pub loop-place-preserved : goal.loop-place-preserved
loop-place-preserved c =
    let answers = c.args.answers.now in
    let place = c.loop-place.place in
    let lt : place < length answers = omega (arith, c.loop-place-test.true, c.count-place-end.ensures) in
    let more : take (place + 1) answers ≡ take place answers ++ c.at.result ∷ [] = take_more answers place _ lt ∙ ap (λ (e : NodeAnswer). take place answers ++ e ∷ []) (sym c.at.ensures) in
    rw (c.in_ok-push.ensures.items, more)
    (all_zipped_more (IsItemFor c.args.net.now c.args.case) (take place answers) c.loop-place.items.items c.at.result c.in_ok-item.item c.loop-place.invariant c.in_ok-item.ensures)
