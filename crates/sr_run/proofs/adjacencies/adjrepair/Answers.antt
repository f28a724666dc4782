use Rattle.std.proofs.Common.{◌≡◌, ◌++◌, refl, subst, sym}
use Rattle.sr_model.specs.Label.{Net}
use Rattle.sr_print.specs.Adjacencies.{IsActiveWithin, adjrepair_line}
use Rattle.sr_print.specs.Told.Told.{AdjRepair, Refused}
use Rattle.sr_print.proofs.Within.{active-within}
use Rattle.sr_run.specs.Questions.{IsRefused}
use Rattle.sr_run.specs.Failures.{TellsAdjRepair, TellsAdjRepairOf}
use Rattle.sr_run.proofs.NameLemmas.{has-named_link, lacks-named_link}
use Rattle.sr_run.proofs.HandlerLemmas.{puts-of, told-of}
use Rattle.sr_run.proofs.adjacencies.adjrepair.Goals as goal

pub returns-in-Err-find_link : goal.returns-in-Err-find_link
returns-in-Err-find_link c =
    let net = c.in-Ok.found.now.net in
    let facts = c.args.facts.now in
    let reason = c.in-Err-find_link.reason in
    told-of (TellsAdjRepair c.args.name.now facts) c.args.current.now c.in-Ok.found.now (Refused reason) c.in-Ok.ensures
    (lacks-named_link (IsRefused (Refused reason)) reason refl net c.args.name.now (λ link. TellsAdjRepairOf facts net link (Refused reason)) c.in-Err-find_link.ensures)

pub put_adjrepair-requires-clause-answer : goal.put_adjrepair-requires-clause-answer
put_adjrepair-requires-clause-answer c =
    let net = c.in-Ok.found.now.net in
    let link = c.in-Ok-find_link.found in
    let answer = c.in_ok-answer.answer in
    subst (λ (n : Net). IsActiveWithin n.graph answer) (sym c.net.ensures.value)
    (active-within net c.in_ok-answer.ensures.eligible link answer c.in_ok-answer.ensures.answer_is)

pub returns : goal.returns
returns c =
    let net = c.in-Ok.found.now.net in
    let facts = c.args.facts.now in
    let link = c.in-Ok-find_link.found in
    let answer = c.in_ok-answer.answer in
    let told = AdjRepair net link answer in
    puts-of (TellsAdjRepair c.args.name.now facts) c.args.current.now c.in-Ok.found.now _ _ told c.in-Ok.ensures
    (has-named_link (IsRefused told) net c.args.name.now link (λ l. TellsAdjRepairOf facts net l told) c.in-Ok-find_link.ensures (answer, c.in_ok-answer.ensures, refl))
    refl (λ number. subst (λ (n : Net). c.put_adjrepair.new.out.items ≡ c.args.out.now.items ++ adjrepair_line n link answer) c.net.ensures.value c.in_ok-put_adjrepair.ensures.line)
