use Rattle.std.proofs.Common.{◌≡◌, ◌++◌, refl, subst, sym}
use Rattle.sr_model.specs.Label.{Net}
use Rattle.sr_model.specs.Audit.{AreLabelsOf}
use Rattle.sr_repair.specs.Delivery.{DeliverWhereListed}
use Rattle.sr_print.specs.Told.Told.{Repair, Refused}
use Rattle.sr_print.specs.Repairs.{IsAnswerWithin, repair_line}
use Rattle.sr_print.proofs.Within.{answer-within}
use Rattle.sr_run.specs.Questions.{IsRefused}
use Rattle.sr_run.specs.Failures.{TellsRepair, TellsRepairOf}
use Rattle.sr_run.proofs.NameLemmas.{has-affected, lacks-affected}
use Rattle.sr_run.proofs.HandlerLemmas.{puts-of, told-of}
use Rattle.sr_run.proofs.failures.repair.Goals as goal

pub returns-in-Err-find_affected : goal.returns-in-Err-find_affected
returns-in-Err-find_affected c =
    let net = c.in-Ok.found.now.net in
    let reason = c.in-Err-find_affected.reason in
    told-of (TellsRepair c.args.repair.now) c.args.current.now c.in-Ok.found.now (Refused reason) c.in-Ok.ensures
    (lacks-affected (IsRefused (Refused reason)) reason refl net c.args.repair.now (λ case d. TellsRepairOf net case d (Refused reason)) c.in-Err-find_affected.ensures)

pub put_repair-requires-clause-answer : goal.put_repair-requires-clause-answer
put_repair-requires-clause-answer c =
    subst (λ (n : Net). IsAnswerWithin n.graph c.answer_of-answer.result) (sym c.net-2.ensures.value)
    (answer-within c.in-Ok.found.now.net c.in-Ok-find_affected.found.case c.in-Ok-find_affected.found.destination.0 c.answer_of-answer.result c.answer_of-answer.ensures)

pub returns : goal.returns
returns c =
    let net = c.in-Ok.found.now.net in
    let case = c.in-Ok-find_affected.found.case in
    let d = c.in-Ok-find_affected.found.destination.0 in
    let answer = c.answer_of-answer.result in
    let labels = c.in_ok-labels.labels.items in
    let told = Repair net case d answer labels in
    puts-of (TellsRepair c.args.repair.now) c.args.current.now c.in-Ok.found.now _ _ told c.in-Ok.ensures
    (has-affected (IsRefused told) net c.args.repair.now case d (λ c e. TellsRepairOf net c e told) c.in-Ok-find_affected.ensures
    (answer, labels, record { answer_is = c.answer_of-answer.ensures; labels_are = subst (λ (n : Net). AreLabelsOf n d answer labels) c.net.ensures.value c.in_ok-labels.ensures.labels; delivers = subst (λ (n : Net). DeliverWhereListed n case d answer labels) c.net.ensures.value c.in_ok-labels.ensures.delivers }, refl))
    refl (λ number. subst (λ (n : Net). c.put_repair.new.out.items ≡ c.args.out.now.items ++ repair_line n case d answer labels) c.net-2.ensures.value (rw c.deref.ensures.value at c.in_ok-put_repair.ensures.line))
