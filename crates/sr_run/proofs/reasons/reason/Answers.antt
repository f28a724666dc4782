use Rattle.std.proofs.Common.{◌≡◌, ◌++◌, refl, subst, sym}
use Rattle.sr_model.specs.Label.{Net}
use Rattle.sr_why.specs.declared.reason.Cause.{Cause}
use Rattle.sr_why.specs.Reasons.{IsReason}
use Rattle.sr_print.specs.Why.{IsReasonWithin, reason_line}
use Rattle.sr_print.specs.Told.Told.{Why, Refused}
use Rattle.sr_print.proofs.WhyWithin.{reason-within}
use Rattle.sr_run.specs.Questions.{IsRefused}
use Rattle.sr_run.specs.Reasons.{TellsReason}
use Rattle.sr_run.proofs.NameLemmas.{has-affected, lacks-affected}
use Rattle.sr_run.proofs.HandlerLemmas.{puts-of, told-of}
use Rattle.sr_run.proofs.reasons.reason.Goals as goal

pub returns-in-Err-find_affected-clause-told : goal.returns-in-Err-find_affected-clause-told
returns-in-Err-find_affected-clause-told g c =
    let net = c.in-Ok.found.now.net in
    let reason = c.in-Err-find_affected.reason in
    told-of (TellsReason c.args.repair.now) c.args.current.now c.in-Ok.found.now (Refused reason) c.in-Ok.ensures
    (lacks-affected (IsRefused (Refused reason)) reason refl net c.args.repair.now (λ case d. (r : Cause) × IsReason net case d r × (Refused reason ≡ Why net r)) c.in-Err-find_affected.ensures)

pub put_reason-requires : goal.put_reason-requires
put_reason-requires g c =
    let net = c.in-Ok.found.now.net in
    let failure = c.in-Ok-find_affected.found in
    subst (λ (n : Net). IsReasonWithin n.graph c.in-Some.reason) (sym c.net.ensures.value)
    (let said = rw c.in-Some.is at c.in_ok-reason.ensures.reason in reason-within net failure.case failure.destination.0 c.in-Some.reason said.1)

pub returns-clause-told : goal.returns-clause-told
returns-clause-told g c =
    let net = c.in-Ok.found.now.net in
    let failure = c.in-Ok-find_affected.found in
    let told = Why net c.in-Some.reason in
    puts-of (TellsReason c.args.repair.now) c.args.current.now c.in-Ok.found.now _ _ told c.in-Ok.ensures
    (has-affected (IsRefused told) net c.args.repair.now failure.case failure.destination.0 (λ case d. (r : Cause) × IsReason net case d r × (told ≡ Why net r)) c.in-Ok-find_affected.ensures
    (let said = rw c.in-Some.is at c.in_ok-reason.ensures.reason in (c.in-Some.reason, said.1, refl)))
    refl (λ number. subst (λ (n : Net). c.put_reason.new.out.items ≡ c.args.out.now.items ++ reason_line n c.in-Some.reason) c.net.ensures.value c.in_ok-put_reason-in-Some.ensures.line)
