use Rattle.std.proofs.Common.{◌≡◌, Some, refl, ap}
use Rattle.sr_print.specs.Told.Told.{ProofKept, Refused}
use Rattle.sr_run.specs.Certificates.{OpensDraft, RefusesDraft, draft_of}
use Rattle.sr_run.proofs.NameLemmas.{has-failure, lacks-failure}
use Rattle.sr_run.proofs.CertificateLemmas.{drafts-of, opened-within}
use Rattle.sr_run.proofs.certificates.open_draft.Goals as goal

pub returns-in-Err-find_failure-clause-told : goal.returns-in-Err-find_failure-clause-told
returns-in-Err-find_failure-clause-told c =
    let net = c.in-Ok.found.now.net in
    let reason = c.in-Err-find_failure.reason in
    let old = c.args.draft.now in
    drafts-of (OpensDraft c.args.repair.now) c.args.current.now c.in-Ok.found.now old (Refused reason) old c.in-Ok.ensures
    (lacks-failure (RefusesDraft old (Refused reason) old) reason (refl, refl) net c.args.repair.now (λ case d. (Refused reason ≡ ProofKept 1) × (old ≡ Some (draft_of case d))) c.in-Err-find_failure.ensures)

pub returns-clause-told : goal.returns-clause-told
returns-clause-told c =
    let net = c.in-Ok.found.now.net in
    let failure = c.in-Ok-find_failure.found in
    let old = c.args.draft.now in
    let new = Some c.open.result in
    record {
      told = ProofKept 1;
      is = drafts-of (OpensDraft c.args.repair.now) c.args.current.now c.in-Ok.found.now old (ProofKept 1) new c.in-Ok.ensures
          (has-failure (RefusesDraft old (ProofKept 1) new) net c.args.repair.now failure.case failure.destination.0 (λ case d. (ProofKept 1 ≡ ProofKept 1) × (new ≡ Some (draft_of case d))) c.in-Ok-find_failure.ensures (refl, ap (λ d. Some d) c.open.ensures));
      accepted = refl;
      appended = λ number. c.in_ok-put_proof.ensures.line;
    }

pub returns-clause-within : goal.returns-clause-within
returns-clause-within c =
    let failure = c.in-Ok-find_failure.found in
    opened-within c.args.current.now c.in-Ok.found.now failure.case failure.destination.0 c.open.result c.in-Ok.ensures c.in-Ok-find_failure.ensures.link.within c.in-Ok-find_failure.ensures.dest.0 c.open.ensures
