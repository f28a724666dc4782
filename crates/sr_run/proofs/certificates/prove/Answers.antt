use Rattle.std.proofs.Common.{◌≡◌, ◌++◌, refl, subst, sym, inl, inr}
use Rattle.sr_model.specs.Label.{Net}
use Rattle.sr_cert.specs.Verdict.{IsWithinNet}
use Rattle.sr_print.specs.Certificates.{certificate_lines}
use Rattle.sr_print.specs.Told.Told.{Proved, Unproved, Refused}
use Rattle.sr_run.specs.Questions.{IsRefused}
use Rattle.sr_run.specs.Certificates.{TellsProof, TellsProofOf}
use Rattle.sr_run.proofs.NameLemmas.{has-affected, lacks-affected}
use Rattle.sr_run.proofs.HandlerLemmas.{puts-of, told-of}
use Rattle.sr_run.proofs.CertificateLemmas.{certificate-within, unproved-answer}
use Rattle.sr_run.proofs.certificates.prove.Goals as goal

pub returns-in-Err-find_affected-clause-told : goal.returns-in-Err-find_affected-clause-told
returns-in-Err-find_affected-clause-told g c =
    let net = c.in-Ok.found.now.net in
    let reason = c.in-Err-find_affected.reason in
    told-of (TellsProof c.args.repair.now) c.args.current.now c.in-Ok.found.now (Refused reason) c.in-Ok.ensures
    (lacks-affected (IsRefused (Refused reason)) reason refl net c.args.repair.now (λ case d. TellsProofOf net case d (Refused reason)) c.in-Err-find_affected.ensures)

pub put_certificate-requires : goal.put_certificate-requires
put_certificate-requires g c =
    let net = c.in-Ok.found.now.net in
    let failure = c.in-Ok-find_affected.found in
    subst (λ (n : Net). IsWithinNet n c.in-Some.certificate) (sym c.net.ensures.value)
    (certificate-within net failure.case failure.destination.0 c.in-Some.certificate c.in-Ok-find_affected.ensures.failure.link.within c.in-Ok-find_affected.ensures.failure.dest.0 (rw c.in-Some.is at c.in_ok-certificate.ensures.certificate))

pub put_unproved-requires : goal.put_unproved-requires
put_unproved-requires g c =
    let net = c.in-Ok.found.now.net in
    let failure = c.in-Ok-find_affected.found in
    unproved-answer net failure.case failure.destination.0 c.answer_of.result c.in-Ok-find_affected.ensures.affected c.answer_of.ensures (rw c.in-None.is at c.in_ok-certificate.ensures.certificate)

pub returns-in_ok-put_certificate-in-Some-clause-told : goal.returns-in_ok-put_certificate-in-Some-clause-told
returns-in_ok-put_certificate-in-Some-clause-told g c =
    let net = c.in-Ok.found.now.net in
    let failure = c.in-Ok-find_affected.found in
    let told = Proved net c.in-Some.certificate in
    puts-of (TellsProof c.args.repair.now) c.args.current.now c.in-Ok.found.now _ _ told c.in-Ok.ensures
    (has-affected (IsRefused told) net c.args.repair.now failure.case failure.destination.0 (λ case d. TellsProofOf net case d told) c.in-Ok-find_affected.ensures
    (inl (c.in-Some.certificate, rw c.in-Some.is at c.in_ok-certificate.ensures.certificate, refl)))
    refl (λ number. subst (λ (n : Net). c.put_certificate.new.out.items ≡ c.args.out.now.items ++ certificate_lines n c.in-Some.certificate) c.net.ensures.value c.in_ok-put_certificate-in-Some.ensures.line)

pub returns-in_ok-put_unproved-in-None-clause-told : goal.returns-in_ok-put_unproved-in-None-clause-told
returns-in_ok-put_unproved-in-None-clause-told g c =
    let net = c.in-Ok.found.now.net in
    let failure = c.in-Ok-find_affected.found in
    let answer = c.answer_of.result in
    let told = Unproved answer in
    puts-of (TellsProof c.args.repair.now) c.args.current.now c.in-Ok.found.now _ _ told c.in-Ok.ensures
    (has-affected (IsRefused told) net c.args.repair.now failure.case failure.destination.0 (λ case d. TellsProofOf net case d told) c.in-Ok-find_affected.ensures
    (inr (answer, c.answer_of.ensures, unproved-answer net failure.case failure.destination.0 answer c.in-Ok-find_affected.ensures.affected c.answer_of.ensures (rw c.in-None.is at c.in_ok-certificate.ensures.certificate), refl)))
    refl (λ number. c.in_ok-put_unproved-in-None.ensures.line)
