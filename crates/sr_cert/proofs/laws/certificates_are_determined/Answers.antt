use Rattle.sr_cert.proofs.CertifyLemmas.{certificates-one}
use Rattle.sr_cert.proofs.DraftLemmas.{drafts-write-one}
use Rattle.sr_cert.proofs.VerdictLemmas.{verdict-one}
use Rattle.sr_cert.proofs.laws.certificates_are_determined.Goals as goal

pub returns : goal.returns
returns c = record { verdicts = verdict-one; certificates = certificates-one; drafts = drafts-write-one }
