use Rattle.std.proofs.Common.{◌≡◌, ◌<◌, length, ap, sym, ◌∙◌, subst, slice_index, arith, Some, None}
use Rattle.sr_model.specs.Repair.{IsCaseAnswer}
use Rattle.sr_encode.specs.declared.answers.NodeAnswer.{NodeAnswer}
use Rattle.sr_encode.specs.Answered.{answer_at}
use Rattle.sr_encode.specs.Codes.{without_cost}
use Rattle.sr_print.specs.Answers.{IsEntryOf, IsWayOf}
use Rattle.sr_print.specs.Repairs.{item_lines}
use Rattle.sr_print.proofs.Appended.{begins-longer, on_err}
use Rattle.sr_print.proofs.Items.{items-more, items-none}
use Rattle.sr_print.proofs.Routes.{same-way}
use Rattle.sr_print.proofs.answers.put_lines.Goals as goal

pub loop-place-init : goal.loop-place-init
loop-place-init c = record {
  puts = items-none c.args.net.now c.args.case c.args.out.now.items;
  way = λ k i is inside code. (let other : None ≡ Some k = sym c.new-way.ensures ∙ is in absurd (cc));
}

pub renew-requires-clause-answer : goal.renew-requires-clause-answer
renew-requires-clause-answer c =
    let lt : c.loop-place.place < length c.args.answers.now = omega (arith, c.loop-place-test.true, c.count-place-end.ensures) in
    subst (λ (e : NodeAnswer). IsCaseAnswer c.args.net.now c.args.case e.destination.0 e.answer) (sym c.at-entry.ensures) (c.requires.answers.answers c.loop-place.place lt)

-- the list that is kept is that of the answer where it has its code
pub renew-requires-clause-known : goal.renew-requires-clause-known
renew-requires-clause-known c = λ is.
    let lt : c.loop-place.place < length c.args.answers.now = omega (arith, c.loop-place-test.true, c.count-place-end.ensures) in
    subst (λ (e : NodeAnswer). IsWayOf c.args.net.now e.answer c.loop-place.way.octets.items) (sym c.at-entry.ensures) (c.loop-place.invariant.way c.at.result c.loop-place.place is lt (sym c.at.ensures))

pub put_line-requires-clause-texts : goal.put_line-requires-clause-texts
put_line-requires-clause-texts c = record { begins = c.requires.head; goes_on = rw c.deref.ensures.value c.in_ok-renew.ensures.way }

pub put_line-requires-clause-entry : goal.put_line-requires-clause-entry
put_line-requires-clause-entry c =
    let lt : c.loop-place.place < length c.args.answers.now = omega (arith, c.loop-place-test.true, c.count-place-end.ensures) in
    subst (λ (e : NodeAnswer). IsEntryOf c.args.net.now c.args.case e) (sym c.at-entry.ensures) (record {
      affected = c.requires.answers.affected c.loop-place.place lt;
      answers = c.requires.answers.answers c.loop-place.place lt;
    })

pub returns-in_err-put_line-clause-err : goal.returns-in_err-put_line-clause-err
returns-in_err-put_line-clause-err c = on_err c.from_residual-in_err-put_line.result (begins-longer _ _ _ _ c.loop-place.invariant.puts.text c.in_err-put_line.ensures.err)

pub returns-in_err-renew-clause-err : goal.returns-in_err-renew-clause-err
returns-in_err-renew-clause-err c = on_err c.from_residual.result (item_lines c.args.net.now c.loop-place.invariant.puts.items, c.loop-place.invariant.puts.text)

pub loop-place-preserved : goal.loop-place-preserved
loop-place-preserved c =
    let lt : c.loop-place.place < length c.args.answers.now = omega (arith, c.loop-place-test.true, c.count-place-end.ensures) in
    record {
      puts = items-more c.args.net.now c.args.case c.args.answers.now c.loop-place.place c.at-entry.result c.args.out.now.items c.loop-place.out.items c.put_line.new.out.items lt c.at-entry.ensures c.loop-place.invariant.puts c.in_ok-put_line.ensures.line;
      way = λ k i is inside code.
          let same : k ≡ c.at.result = cc (is, c.in_ok-renew.ensures.code) in
          let codes : slice_index c.codes-codes.result c.loop-place.place ≡ slice_index c.codes-codes.result i = sym c.at.ensures ∙ sym same ∙ sym code in
          let alike : without_cost (answer_at c.args.answers.now c.loop-place.place) ≡ without_cost (answer_at c.args.answers.now i) = c.codes-codes.ensures.same c.loop-place.place i lt inside codes in
          let here : without_cost c.at-entry.result.answer ≡ without_cost (answer_at c.args.answers.now i) = ap (λ (e : NodeAnswer). without_cost e.answer) c.at-entry.ensures ∙ alike in
          same-way c.args.net.now c.at-entry.result.answer (answer_at c.args.answers.now i) c.renew.new.self.octets.items here c.in_ok-renew.ensures.way;
    }
